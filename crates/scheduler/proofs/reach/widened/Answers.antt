use Rattle.std.proofs.lemmas.Bool.{both_ways}
use Rattle.scheduler.proofs.Reaching.{widening-none, widening_past, widening_with, widening-end}
use Rattle.scheduler.proofs.reach.widened.Goals as goal
use Rattle.scheduler.proofs.reach.widened.Goals.{then-meets, else-meets}

pub loop-place-init : goal.loop-place-init
loop-place-init c = widening-none c.args.rows.now c.args.marked.bits

pub loop-place-preserved : goal.loop-place-preserved
loop-place-preserved c = elim c.if-meets.branch [
  | then-meets w ↦ rw w.wider-is (widening_with c.loop-place.invariant c.loop-place-test.true _ w.with-wider.ensures.grows w.with-wider.ensures.value (c.meets.ensures.0 w.if-meets.true))
  | else-meets w ↦ rw w.wider-is (widening_past c.loop-place.invariant (λ a h x. both_ways c.meets.result w.if-meets.false (c.meets.ensures.1 (a, x, h))))
]

pub returns : goal.returns
returns c = widening-end c.loop-place.invariant c.loop-place-test.false
