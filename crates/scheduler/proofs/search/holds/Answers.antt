use Rattle.std.proofs.Common.{sym, ◌∙◌}
use Rattle.scheduler.proofs.Scans.{holds_end, holds-here, holds_past}
use Rattle.scheduler.proofs.search.holds.Goals as goal

pub loop-lock-preserved : goal.loop-lock-preserved
loop-lock-preserved c = holds_past c.args.t c.args.item c.args.kind c.args.locks.now c.loop-lock.lock-index c.loop-lock-test.true (sym c.if-is_lock.ensures) ∙ c.loop-lock.invariant

pub returns-then-is_lock : goal.returns-then-is_lock
returns-then-is_lock c = sym (holds-here c.args.t c.args.item c.args.kind c.args.locks.now c.loop-lock.lock-index c.loop-lock-test.true (sym c.if-is_lock.ensures)) ∙ c.loop-lock.invariant

pub returns : goal.returns
returns c = sym (holds_end c.args.t c.args.item c.args.kind c.args.locks.now c.loop-lock.lock-index c.loop-lock-test.false) ∙ c.loop-lock.invariant
