use Rattle.std.proofs.Common.{◌≡◌, take}
use Rattle.scheduler.specs.Edges.{Covers}
use Rattle.scheduler.proofs.tables.Tables.blocks.Given as goal

abbrev pub invariant-loop-lock : goal.invariant-loop-lock
invariant-loop-lock l = (l.locks ≡ l.self.locks.inner.items) × Covers (take l.lock-index l.locks) l.blocks.bits
