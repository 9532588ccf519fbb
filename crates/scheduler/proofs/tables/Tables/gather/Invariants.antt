use Rattle.std.proofs.Common.{◌≡◌, length, take}
use Rattle.scheduler.specs.declared.lock.Kind.TheVariants.{Read, Write}
use Rattle.scheduler.specs.Edges.{Held}
use Rattle.scheduler.proofs.tables.Tables.gather.Given as goal

abbrev pub invariant-loop-lock : goal.invariant-loop-lock
invariant-loop-lock l =
    (l.locks ≡ l.self.locks.inner.items) × (l.holders.block ≡ l.initial.holders.block)
    × (Held l.self.open.items (take l.lock-index l.locks) l.initial.holders.block Read l.holders.readers × (length l.holders.readers ≡ 1024))
    × (Held l.self.open.items (take l.lock-index l.locks) l.initial.holders.block Write l.holders.writers × (length l.holders.writers ≡ 1024))
