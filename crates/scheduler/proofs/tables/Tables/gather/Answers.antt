use Rattle.std.proofs.Common.{◌≡◌, ℕ, ◌+◌, false, ltb, List, [], length, get_or, take, replicate, sym, refl, ap, ◌∙◌, subst}
use Rattle.std.proofs.lemmas.List.{take_all}
use Rattle.std.proofs.lemmas.Bool.{and_right, eq-eqb, ne_eqb}
use Rattle.scheduler.specs.declared.lock.Kind.{Kind}
use Rattle.scheduler.specs.declared.lock.Kind.TheVariants.{Read, Write}
use Rattle.scheduler.specs.declared.lock.Lock.{Lock}
use Rattle.scheduler.specs.declared.places.Places.{Places}
use Rattle.scheduler.specs.declared.transaction.Transaction.{Transaction}
use Rattle.scheduler.specs.Orders.{no_lock}
use Rattle.scheduler.specs.Edges.{Held}
use Rattle.scheduler.specs.Holding.{Puts}
use Rattle.scheduler.specs.ItemSets.{no_places}
use Rattle.scheduler.specs.Ledger.{same_kind}
use Rattle.scheduler.proofs.Gathering.{blank, held-elsewhere, held_gone, held_put}
use Rattle.scheduler.proofs.tables.Tables.gather.Goals as goal
use Rattle.scheduler.proofs.tables.Tables.gather.Goals.{then-lock-holders+in-Some, then-lock-holders+in_default, else-lock-holders}

-- of no locks, nobody is a holder
none : (os : List Transaction) (w : ℕ) (k : Kind) (cells : List Places) → cells ≡ replicate 1024 no_places → Held os [] w k cells × (length cells ≡ 1024)
none os w k cells e =
    (subst (Held os [] w k) (sym e) (λ j a lj la. blank 1024 j a ∙ sym (and_right (ltb a (length os)) false refl)), ap length e)

pub loop-lock-init : goal.loop-lock-init
loop-lock-init c =
    let os = c.args.self.now.open.items in
    let w = c.args.holders.now.block in
    (c.list-locks.ensures, refl, none os w Read _ c.requires.readers, none os w Write _ c.requires.writers)

pub loop-lock-preserved : goal.loop-lock-preserved
loop-lock-preserved c =
    let T = c.args.self.now in
    let os = T.open.items in
    let ls = c.list-locks.result.now in
    let k = c.loop-lock.lock-index in
    let l = get_or ls k no_lock in
    let w = c.args.holders.now.block in
    let I = c.loop-lock.invariant in
    let in' = c.loop-lock-test.true in
    elim c.if-lock-holders.branch [
      | then-lock-holders+in-Some v ↦
          let here = eq-eqb _ w (v.if-lock-holders.true ∙ I.1) in
          let put : (kind : Kind) (cells next : List Places) → Held os (take k ls) w kind cells × (length cells ≡ 1024) → Puts (same_kind l.kind kind) cells next v.from.result v.in-Some.place → Held os (take (k + 1) ls) w kind next × (length next ≡ 1024) =
          λ kind cells next H p. held_put os T.begins T.rising ls k w kind in' cells next v.in-Some.place H.0 H.1 here v.in-Some.ensures (subst (λ (j : ℕ). Puts (same_kind l.kind kind) cells next j v.in-Some.place) v.from.ensures p) in
          rw v.holders-is (I.0, v.add.ensures.block ∙ I.1, put Read _ _ I.2 v.add.ensures.readers, put Write _ _ I.3 v.add.ensures.writers)
      | then-lock-holders+in_default v ↦ rw v.holders-is (
        I.0,
        I.1,
        (held_gone os T.begins T.rising ls k w Read in' c.loop-lock.holders.readers I.2.0 v.in_default.ensures, I.2.1),
        (held_gone os T.begins T.rising ls k w Write in' c.loop-lock.holders.writers I.3.0 v.in_default.ensures, I.3.1),
      )
      | else-lock-holders v ↦
          let away = ne_eqb _ w (λ e. v.if-lock-holders.false (e ∙ sym I.1)) in
          rw v.holders-is (
            I.0,
            I.1,
            (held-elsewhere os T.begins T.rising ls k w Read in' c.loop-lock.holders.readers I.2.0 away, I.2.1),
            (held-elsewhere os T.begins T.rising ls k w Write in' c.loop-lock.holders.writers I.3.0 away, I.3.1),
          )
    ]

pub returns : goal.returns
returns c =
    let os = c.args.self.now.open.items in
    let ls = c.list-locks.result.now in
    let I = c.loop-lock.invariant in
    let h = c.loop-lock.holders in
    let all : (kind : Kind) (cells : List Places) → Held os (take c.loop-lock.lock-index ls) c.args.holders.now.block kind cells → Held os c.args.self.now.locks.inner.items h.block kind cells =
    λ kind cells H. subst (λ (n : ℕ). Held os c.args.self.now.locks.inner.items n kind cells) (sym I.1) (subst (λ (xs : List Lock). Held os xs c.args.holders.now.block kind cells) (take_all c.loop-lock.lock-index ls c.loop-lock-test.false ∙ I.0) H) in
    record { block = I.1; holders = record { readers = all Read h.readers I.2.0; writers = all Write h.writers I.3.0 } }
