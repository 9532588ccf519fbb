-- Two changes of the ledger by place.
use Rattle.std.specs.Prelude.{ℕ, ◌+◌, Option, [], ◌∷◌, ◌++◌, slice_index_or, slice_set}
use Rattle.scheduler.specs.declared.lock.Lock.{Lock}
use Rattle.scheduler.specs.declared.transaction.State.{State}
use Rattle.scheduler.specs.declared.transaction.State.TheVariants.{Active}
use Rattle.scheduler.specs.Orders.{no_transaction}
use Rattle.scheduler.specs.Ledger.{Ledger, added, ledger, transaction}

-- t is open, one begin more
abbrev pub begun : ℕ → Ledger → Ledger
begun t L = ledger (L.begins + 1) (L.opens ++ transaction t Active ∷ []) L.locks

-- the transaction at the place i is in the state s
abbrev pub moved : ℕ → State → Ledger → Ledger
moved i s L = ledger L.begins (slice_set L.opens i (transaction (slice_index_or L.opens i no_transaction).number s)) L.locks

-- the transaction at the place i is active, and has the lock that was missing, if one was
abbrev pub given : ℕ → Option Lock → Ledger → Ledger
given i l L = ledger L.begins (moved i Active L).opens (added l L.locks)
