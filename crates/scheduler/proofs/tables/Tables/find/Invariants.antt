use Rattle.std.proofs.Common.{◌≡◌, ℕ, ◌-◌, ◌<◌, ◌≤◌, length, get_or}
use Rattle.scheduler.specs.Orders.{no_transaction}
use Rattle.scheduler.proofs.tables.Tables.find.Given as goal

abbrev pub invariant-loop-low : goal.invariant-loop-low
invariant-loop-low l =
    (l.list ≡ l.self.open.items) × (l.high ≤ length l.list)
    × ((k : ℕ) → k < l.low → (get_or l.list k no_transaction).number < l.t)
    × ((k : ℕ) → l.high ≤ k → k < length l.list → l.t < (get_or l.list k no_transaction).number)

abbrev pub decreases-loop-low : goal.decreases-loop-low
decreases-loop-low l = l.high - l.low
