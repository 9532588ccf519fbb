-- A call to one transaction, by the transaction's state.
use Rattle.std.specs.Prelude.{ℕ, Some, None, Option, Result}
use Rattle.records.specs.declared.refusal.Refusal.{Refusal}
use Rattle.scheduler.specs.declared.call.Call.{Call}
use Rattle.scheduler.specs.declared.call.Call.TheVariants.{Abort, Retry, Try}
use Rattle.scheduler.specs.declared.transaction.Ask.{Ask}
use Rattle.scheduler.specs.declared.transaction.State.{State}
use Rattle.scheduler.specs.Ledger.{held}
use Rattle.scheduler.specs.Steps.{Task, aborting, asking, retrying}

abbrev pub called : ℕ → Call → Option State → Result Task Refusal
called t (Try a) s = asking t a s
called t Retry s = retrying t s
called t Abort s = aborting t s

-- what it asks for
abbrev pub sought : Call → Option State → Option Ask
sought (Try a) s = Some a
sought Retry s = held s
sought Abort s = None
