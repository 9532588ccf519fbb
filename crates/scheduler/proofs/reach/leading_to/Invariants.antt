use Rattle.std.proofs.Common.{◌-◌, ◌^◌}
use Rattle.scheduler.proofs.Reaching.{Leading}
use Rattle.scheduler.proofs.reach.leading_to.Given as goal

abbrev pub invariant-loop-wider : goal.invariant-loop-wider
invariant-loop-wider l = Leading l.rows l.to l.marked.bits

abbrev pub decreases-loop-wider : goal.decreases-loop-wider
decreases-loop-wider l = 2 ^ 64 - l.marked.bits
