use Rattle.std.proofs.Common.{◌+◌}
use Rattle.season.specs.Weights.{desk_weight, lane_weight}
use Rattle.season.proofs.take_turns.Given as goal

abbrev pub decreases-loop-first : goal.decreases-loop-first
decreases-loop-first g l = lane_weight l.first + lane_weight l.second + desk_weight l.desk
