-- Where a transaction stands in the list of the open ones.
use Rattle.std.specs.Prelude.{◌≡◌, ℕ, ◌<◌, List, length, Some, None, Option, slice_index_or, slice_set}
use Rattle.scheduler.specs.declared.transaction.State.{State}
use Rattle.scheduler.specs.declared.transaction.Transaction.{Transaction}
use Rattle.scheduler.specs.Orders.{no_transaction}
use Rattle.scheduler.specs.Ledger.{restated, state_of, transaction}

-- t stands at the place i
pub record At (os : List Transaction) (t i : ℕ) : Type 0 where
  pub within : i < length os
  pub number : (slice_index_or os i no_transaction).number ≡ t
  pub state : state_of t os ≡ Some (slice_index_or os i no_transaction).state
  pub change : (s : State) → restated t s os ≡ slice_set os i (transaction t s)

abbrev pub Found : List Transaction → ℕ → Option ℕ → Type 0
Found os t None = state_of t os ≡ None
Found os t (Some i) = At os t i
