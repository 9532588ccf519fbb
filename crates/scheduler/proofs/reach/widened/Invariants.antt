use Rattle.scheduler.proofs.Reaching.{Widening}
use Rattle.scheduler.proofs.reach.widened.Given as goal

abbrev pub invariant-loop-place : goal.invariant-loop-place
invariant-loop-place l = Widening l.rows l.marked.bits l.place l.wider.bits
