use Rattle.std.proofs.Common.{not, eqb, arith}
use Rattle.scheduler.specs.declared.lock.Lock.{Lock}
use Rattle.scheduler.proofs.Orderly.{orderly_kept}
use Rattle.scheduler.proofs.lock_list.LockList.remove_owner.Goals as goal

pub invariant_of-self : goal.invariant_of-self
invariant_of-self c =
    record {
      fits = omega (arith, c.let_go.ensures.bound, c.args.self.now.fits);
      orderly = rw c.let_go.ensures.items (orderly_kept (λ (x : Lock). not (eqb x.owner c.args.t)) c.args.self.now.inner.items c.args.self.now.orderly);
    }
