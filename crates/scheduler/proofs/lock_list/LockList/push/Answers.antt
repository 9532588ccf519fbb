use Rattle.std.proofs.Common.{rules}
use Rattle.scheduler.proofs.Orderly.{orderly-grown}
use Rattle.scheduler.proofs.lock_list.LockList.push.Goals as goal

pub invariant_of-self-clause-orderly : goal.invariant_of-self-clause-orderly
invariant_of-self-clause-orderly c = search (rules, orderly-grown c.args.self.now.inner.items c.args.lock c.args.self.now.orderly c.requires.fresh)
