use Rattle.posting.specs.Taken.{turn_left}
use Rattle.tickets_tests.proofs.posted.finish.Given as goal

abbrev pub decreases-loop-turn : goal.decreases-loop-turn
decreases-loop-turn g l = turn_left l.turn
