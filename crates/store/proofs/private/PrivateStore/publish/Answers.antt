use Rattle.std.proofs.Common.{arith}
use Rattle.store.proofs.Kept.{apart_kept, bounded_kept, count_kept}
use Rattle.store.proofs.Landing.{bounded-more, items-landed, rest-landed, size_of-landed}
use Rattle.store.proofs.private.PrivateStore.publish.Goals as goal
use Rattle.store.proofs.Workspace.{found_kept}
use Rattle.store.specs.Entries.{others, same_pair, size_of}

pub land-requires : goal.land-requires
land-requires c = let s = c.args.self.now in bounded-more _ _ s.writes.entries.items (omega arith) s.bounded

pub invariant_of-self : goal.invariant_of-self
invariant_of-self c =
    let s = c.args.self.now in
    let es = s.writes.entries.items in
    let vs = s.values.now in
    let q = others c.args.t in
    let gone = c.forget.ensures in
    record {
      apart = rw gone (apart_kept same_pair q es s.apart);
      bounded = rw (gone, c.land.ensures, size_of-landed c.args.t es vs) (bounded_kept (size_of vs) q es s.bounded);
      shares = λ u. rw gone (omega (arith, count_kept u q es, s.shares u));
    }

pub returns : goal.returns
returns c =
    let s = c.args.self.now in
    let t = c.args.t in
    let es = s.writes.entries.items in
    let vs = s.values.now in
    let back = c.land.ensures in
    record {
      committed = rw back (items-landed t es vs s.bounded s.apart);
      pending = rw c.forget.ensures (found_kept es t);
      place = rw (back, rest-landed (size_of vs) t es vs (omega arith) s.bounded);
    }
