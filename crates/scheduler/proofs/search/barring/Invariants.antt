use Rattle.std.proofs.Common.{◌≡◌, drop}
use Rattle.scheduler.specs.Blockers.{barring}
use Rattle.scheduler.proofs.search.barring.Given as goal

abbrev pub invariant-loop-lock : goal.invariant-loop-lock
invariant-loop-lock g l =
    let ok = g.R.LockRule.allows l.rule in
    barring ok l.t l.item l.kind (drop l.lock-index l.locks) ≡ barring ok l.t l.item l.kind l.locks
