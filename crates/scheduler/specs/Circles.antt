-- A circle of waits.
use Rattle.std.specs.Prelude.{ℕ}
use Rattle.scheduler.specs.Blockers.{Rule, Chain, Waits}
use Rattle.scheduler.specs.Ledger.{Ledger}

-- t waits for somebody from whom a chain of waits leads back to t
pub record Circle (ok : Rule) (L : Ledger) (t : ℕ) : Type 0 where
  pub blocker : ℕ
  pub waits : Waits ok L t blocker
  pub back : Chain ok L blocker t
