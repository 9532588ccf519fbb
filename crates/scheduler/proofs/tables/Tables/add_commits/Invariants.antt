use Rattle.std.proofs.Common.{◌≡◌, length, take}
use Rattle.scheduler.specs.Edges.{More, commits, in_block}
use Rattle.scheduler.proofs.tables.Tables.add_commits.Given as goal

abbrev pub invariant-loop-lock : goal.invariant-loop-lock
invariant-loop-lock l =
    (l.locks ≡ l.self.locks.inner.items) × (length l.rows ≡ 64)
    × More l.self.open.items (commits (in_block l.holders.block) l.locks (take l.lock-index l.locks)) l.initial.rows l.rows
