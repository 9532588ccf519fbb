-- The tables as a ledger.
use Rattle.scheduler.specs.declared.tables.Tables.{Tables}
use Rattle.scheduler.specs.Ledger.{Ledger, ledger}

abbrev pub ledger_of : Tables → Ledger
ledger_of T = ledger T.begins T.open.items T.locks.inner.items
