use Rattle.std.proofs.Common.{◌≡◌, ◌++◌, map, drop, vec_items}
use Rattle.server.specs.Told.{bytes_of}
use Rattle.scheduler.specs.Recorded.{still_open}
use Rattle.server.proofs.closing.push_open.Given as goal

abbrev pub invariant-loop-transaction : goal.invariant-loop-transaction
invariant-loop-transaction l =
    vec_items l.out ++ bytes_of (map still_open (drop l.transaction-index l.transactions))
    ≡ vec_items l.initial.out ++ bytes_of (map still_open l.transactions)
