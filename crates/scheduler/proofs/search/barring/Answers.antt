use Rattle.std.proofs.Common.{ℕ, List, get_or, sym, ◌∙◌, subst}
use Rattle.scheduler.specs.Orders.{no_lock}
use Rattle.scheduler.specs.Blockers.{In}
use Rattle.scheduler.proofs.Scans.{barring_end, barring-here, barring_past}
use Rattle.scheduler.proofs.search.barring.Goals as goal

pub loop-lock-preserved : goal.loop-lock-preserved
loop-lock-preserved g c = barring_past (g.R.LockRule.allows c.args.rule.now) c.args.t c.args.item c.args.kind c.args.locks.now c.loop-lock.lock-index c.loop-lock-test.true (sym c.if-bars.ensures) ∙ c.loop-lock.invariant

pub returns-then-bars : goal.returns-then-bars
returns-then-bars g c =
    subst (λ (bs : List ℕ). In (get_or c.args.locks.now c.loop-lock.lock-index no_lock).owner bs) c.loop-lock.invariant
    (barring-here (g.R.LockRule.allows c.args.rule.now) c.args.t c.args.item c.args.kind c.args.locks.now c.loop-lock.lock-index c.loop-lock-test.true (sym c.if-bars.ensures))

pub returns : goal.returns
returns g c = sym c.loop-lock.invariant ∙ barring_end (g.R.LockRule.allows c.args.rule.now) c.args.t c.args.item c.args.kind c.args.locks.now c.loop-lock.lock-index c.loop-lock-test.false
