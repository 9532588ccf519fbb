use Rattle.std.proofs.Common.{length, ◌≡◌, ◌+◌, true, List, get_or, drop, set, ℤ, sym, ap, ◌∙◌, arith, w32, SFits, rules}
use Rattle.std.proofs.lemmas.List.{at_drop_all}
use Rattle.std.proofs.lemmas.Int.{to_z-of_z}
use Rattle.std.proofs.lemmas.Bool.{cond-false, cond-true, eq-eqb, ne_eqb}
use Rattle.store.proofs.Scans.{bounded_at, landed-more}
use Rattle.store.proofs.table.Table.land.Goals as goal
use Rattle.store.proofs.table.Table.land.Goals.{else-e-t, then-e-t}
use Rattle.store.specs.Entries.{blank, bounded, landed}

pub bounds-values-e : goal.bounds-values-e
bounds-values-e c =
    let list = c.as_slice-e-items.result.now in
    let n = length c.args.values.now in
    let low : bounded n list ≡ true = ap (bounded n) c.as_slice-e-items.ensures.value ∙ c.requires in
    omega (arith, (bounded_at n list c.loop-e.e-index low c.loop-e-test.true).1)

pub loop-e-preserved : goal.loop-e-preserved
loop-e-preserved c =
    let t = c.args.t in
    let list = c.as_slice-e-items.result.now in
    let k = c.loop-e.e-index in
    let e = get_or list k blank in
    let vs = c.loop-e.values in
    let on : List ℤ → List ℤ = λ ws. landed t (drop (k + 1) list) ws in
    let step = landed-more t list k c.loop-e-test.true vs in
    elim c.if-e-t.branch [
      | then-e-t w ↦ let fits : SFits w32 e.value = search rules in ap on (w.values-is ∙ ap (set vs e.item) (to_z-of_z w32 e.value fits) ∙ sym (cond-true _ (set vs e.item e.value) vs (eq-eqb _ _ w.if-e-t.true))) ∙ sym step ∙ c.loop-e.invariant
      | else-e-t w ↦ ap on (w.values-is ∙ sym (cond-false _ (set vs e.item e.value) vs (ne_eqb _ _ w.if-e-t.false))) ∙ sym step ∙ c.loop-e.invariant
    ]

pub returns : goal.returns
returns c =
    let t = c.args.t in
    sym (at_drop_all (λ l. landed t l c.loop-e.values) c.as_slice-e-items.result.now c.loop-e.e-index c.loop-e-test.false)
    ∙ c.loop-e.invariant
    ∙ ap (λ l. landed t l c.args.values.now) c.as_slice-e-items.ensures.value
