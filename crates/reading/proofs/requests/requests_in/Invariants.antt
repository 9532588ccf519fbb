use Rattle.std.proofs.Common.{◌≡◌, ◌-◌, ◌≤◌, length, vec_items}
use Rattle.reading.specs.Held.{held}
use Rattle.reading.proofs.Steps.{behind}
use Rattle.reading.proofs.requests.requests_in.Given as goal

-- what was found, and what the rest holds, is what the input holds
abbrev pub invariant-loop-rest : goal.invariant-loop-rest
invariant-loop-rest l =
    (length l.rest ≤ length l.input)
    × (behind (vec_items l.found) (held 0 (length l.input - length l.rest) l.rest) ≡ held 0 0 l.input)

abbrev pub decreases-loop-rest : goal.decreases-loop-rest
decreases-loop-rest l = length l.rest
