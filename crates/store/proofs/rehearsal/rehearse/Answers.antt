use Rattle.std.proofs.Common.{◌≡◌, ℕ, ◌+◌, true, false, cond, List, get_or, drop, ℤ, is_some, is_ok, Option, sym, ap, ◌∙◌, arith, w32, SFits, rules}
use Rattle.records.specs.declared.refusal.Refusal.{Refusal}
use Rattle.std.proofs.lemmas.List.{at_drop_all}
use Rattle.std.proofs.lemmas.Int.{to_z-of_z}
use Rattle.std.proofs.lemmas.Bool.{cond-false, cond-true}
use Rattle.store.proofs.Rehearsed.{accepted_less, accepted-more, declined, looked-others, looked_own, no_write, took, without-none, without-written}
use Rattle.store.proofs.rehearsal.rehearse.Goals as goal
use Rattle.store.proofs.rehearsal.rehearse.Goals.{else-is_ok, then-is_ok}
use Rattle.store.specs.Meaning.{Writes, looked, refused, without, written}
use Rattle.store.specs.Rehearsals.{accepted}

pub loop-w-preserved : goal.loop-w-preserved
loop-w-preserved g c =
    let m = g.S.Store in
    let t = c.args.t in
    let k = c.loop-w.w-index in
    let ws = c.args.writes.now in
    let w = get_or ws k no_write in
    let cs = m.committed c.args.store.now in
    let p = m.pending c.loop-w.store in
    let q = m.pending c.put.new.self in
    let inv = c.loop-w.invariant in
    let left : Writes → ℕ = λ r. accepted m.private m.room m.share cs r t (drop (k + 1) ws) in
    let why : Option Refusal = refused m.private m.room m.share (m.committed c.loop-w.store) p t w.item in
    let same : why ≡ refused m.private m.room m.share cs p t w.item = ap (λ (l : List ℤ). refused m.private m.room m.share l p t w.item) inv.1 in
    let fits : SFits w32 w.value = search rules in
    let after : q ≡ cond (is_ok c.put.result) (written p t w.item w.value) p = c.put.ensures.pending ∙ ap (λ (v : ℤ). cond (is_ok c.put.result) (written p t w.item v) p) (to_z-of_z w32 w.value fits) in
    elim c.if-is_ok.branch [
      | then-is_ok way ↦
          let ok : is_ok c.put.result ≡ true = sym c.is_ok.ensures.value ∙ way.if-is_ok.true in
          let wrote : q ≡ written p t w.item w.value = after ∙ cond-true (is_ok c.put.result) (written p t w.item w.value) p ok in
          let more = accepted-more m.private m.room m.share cs t ws k c.loop-w-test.true p (sym (ap is_some same) ∙ took c.put.result why c.put.ensures.answer ok) in
          (omega (arith, way.count-is, inv.0), c.put.ensures.committed ∙ inv.1, ap (λ (r : Writes). without r t) wrote ∙ without-written p t w.item w.value ∙ inv.2, c.put.ensures.place ∙ inv.3, omega (arith, way.count-is, inv.4, more, ap left wrote))
      | else-is_ok way ↦
          let no' : is_ok c.put.result ≡ false = sym c.is_ok.ensures.value ∙ way.if-is_ok.false in
          let stays : q ≡ p = after ∙ cond-false (is_ok c.put.result) (written p t w.item w.value) p no' in
          let less = accepted_less m.private m.room m.share cs t ws k c.loop-w-test.true p (sym (ap is_some same) ∙ declined c.put.result why c.put.ensures.answer no') in
          (omega (arith, way.count-is, inv.0), c.put.ensures.committed ∙ inv.1, ap (λ (r : Writes). without r t) stays ∙ inv.2, c.put.ensures.place ∙ inv.3, omega (arith, way.count-is, inv.4, less, ap left stays))
    ]

pub returns : goal.returns
returns g c =
    let m = g.S.Store in
    let t = c.args.t in
    let cs = m.committed c.args.store.now in
    let p = m.pending c.args.store.now in
    let inv = c.loop-w.invariant in
    let kept : m.committed c.discard.new.self ≡ cs = c.discard.ensures.committed ∙ inv.1 in
    let gone : m.pending c.discard.new.self ≡ without p t = c.discard.ensures.pending ∙ inv.2 in
    let end = at_drop_all (accepted m.private m.room m.share cs (m.pending c.loop-w.store) t) c.args.writes.now c.loop-w.w-index c.loop-w-test.false in
    record {
      accepted = omega (arith, inv.4, end);
      committed = kept;
      pending = gone;
      untouched = λ none. gone ∙ without-none p t none;
      others = λ u i ne. ap (λ (l : List ℤ). looked l (m.pending c.discard.new.self) u i) kept ∙ ap (λ (r : Writes). looked cs r u i) gone ∙ looked-others cs p t u i ne;
      own = λ i none. ap (λ (l : List ℤ). looked l (m.pending c.discard.new.self) t i) kept ∙ ap (λ (r : Writes). looked cs r t i) gone ∙ looked_own cs p t i none;
      place = c.discard.ensures.place ∙ inv.3;
    }
