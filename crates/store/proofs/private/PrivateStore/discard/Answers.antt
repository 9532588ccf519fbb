use Rattle.std.proofs.Common.{arith}
use Rattle.store.proofs.Kept.{apart_kept, bounded_kept, count_kept}
use Rattle.store.proofs.private.PrivateStore.discard.Goals as goal
use Rattle.store.proofs.Workspace.{found_kept}
use Rattle.store.specs.Entries.{others, same_pair, size_of}

pub invariant_of-self : goal.invariant_of-self
invariant_of-self c =
    let s = c.args.self.now in
    let es = s.writes.entries.items in
    let q = others c.args.t in
    let gone = c.forget.ensures in
    record {
      apart = rw gone (apart_kept same_pair q es s.apart);
      bounded = rw gone (bounded_kept (size_of s.values.now) q es s.bounded);
      shares = λ u. rw gone (omega (arith, count_kept u q es, s.shares u));
    }

pub returns-clause-pending : goal.returns-clause-pending
returns-clause-pending c = rw c.forget.ensures (found_kept c.args.self.now.writes.entries.items c.args.t)
