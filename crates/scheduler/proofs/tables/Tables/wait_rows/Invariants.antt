use Rattle.scheduler.proofs.Blockwise.{Upto}
use Rattle.scheduler.proofs.tables.Tables.wait_rows.Given as goal

abbrev pub invariant-loop-block : goal.invariant-loop-block
invariant-loop-block g l = Upto (g.R.LockRule.allows l.rule) l.self.open.items l.self.locks.inner.items l.block l.rows
