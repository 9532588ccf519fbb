use Rattle.std.proofs.Common.{ℕ, ◌/◌, ◌<◌, ◌||◌, eqb, List, get_or, ap, ◌∙◌, subst, rules}
use Rattle.std.proofs.lemmas.List.{take_all}
use Rattle.scheduler.specs.declared.lock.Lock.{Lock}
use Rattle.scheduler.specs.Orders.{no_lock}
use Rattle.scheduler.specs.Bits.{has}
use Rattle.scheduler.specs.Edges.{Covers}
use Rattle.scheduler.proofs.Gathering.{covers_more, covers_none}
use Rattle.scheduler.proofs.tables.Tables.blocks.Goals as goal

pub loop-lock-init : goal.loop-lock-init
loop-lock-init c = (c.list-locks.ensures, covers_none _)

pub loop-lock-preserved : goal.loop-lock-preserved
loop-lock-preserved c =
    let ls = c.list-locks.result.now in
    let k = c.loop-lock.lock-index in
    let small : (get_or ls k no_lock).item / 1024 < 64 = search rules in (
      c.loop-lock.invariant.0,
      covers_more ls k c.loop-lock.blocks.bits c.with-blocks.result.bits c.loop-lock-test.true small c.loop-lock.invariant.1
          (λ p. c.with-blocks.ensures.value p ∙ ap (λ (n : ℕ). has c.loop-lock.blocks.bits p || eqb n p) c.from.ensures),
    )

pub returns : goal.returns
returns c =
    let ls = c.list-locks.result.now in
    subst (λ (xs : List Lock). Covers xs c.loop-lock.blocks.bits) (take_all c.loop-lock.lock-index ls c.loop-lock-test.false ∙ c.loop-lock.invariant.0) c.loop-lock.invariant.1
