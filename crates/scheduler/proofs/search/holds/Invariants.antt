use Rattle.std.proofs.Common.{◌≡◌, drop}
use Rattle.scheduler.specs.Ledger.{holds}
use Rattle.scheduler.proofs.search.holds.Given as goal

abbrev pub invariant-loop-lock : goal.invariant-loop-lock
invariant-loop-lock l = holds l.t l.item l.kind (drop l.lock-index l.locks) ≡ holds l.t l.item l.kind l.locks
