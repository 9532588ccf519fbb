-- The tables with a store's values and pending writes.
use Rattle.std.specs.Prelude.{List, ℤ}
use Rattle.store.specs.Meaning.{Writes}
use Rattle.scheduler.specs.declared.tables.Tables.{Tables}
use Rattle.scheduler.specs.Stepped.{Situation}
use Rattle.scheduler.specs.Tables.{ledger_of}

abbrev pub situation : Tables → List ℤ → Writes → Situation
situation T cs p = record { ledger = ledger_of T; committed = cs; pending = p }
