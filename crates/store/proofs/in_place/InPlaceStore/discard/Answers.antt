use Rattle.std.proofs.Common.{arith}
use Rattle.store.proofs.Images.{discard_behind, discard-pending}
use Rattle.store.proofs.Kept.{apart_kept, bounded_kept}
use Rattle.store.proofs.Landing.{bounded-more, rest-landed, size_of-landed}
use Rattle.store.proofs.in_place.InPlaceStore.discard.Goals as goal
use Rattle.store.specs.Entries.{others, same_item, size_of}

pub land-requires : goal.land-requires
land-requires c = let s = c.args.self.now in bounded-more _ _ s.images.entries.items (omega arith) s.bounded

pub invariant_of-self : goal.invariant_of-self
invariant_of-self c =
    let s = c.args.self.now in
    let es = s.images.entries.items in
    let vs = s.values.now in
    let q = others c.args.t in
    let gone = c.forget.ensures in
    record {
      apart = rw gone (apart_kept same_item q es s.apart);
      bounded = rw (gone, c.land.ensures, size_of-landed c.args.t es vs) (bounded_kept (size_of vs) q es s.bounded);
    }

pub returns : goal.returns
returns c =
    let s = c.args.self.now in
    let t = c.args.t in
    let es = s.images.entries.items in
    let vs = s.values.now in
    let back = c.land.ensures in
    let gone = c.forget.ensures in
    record {
      committed = rw (gone, back) (discard_behind es vs t s.bounded s.apart);
      pending = rw (gone, back) (discard-pending es vs t s.bounded s.apart);
      place = rw (back, rest-landed (size_of vs) t es vs (omega arith) s.bounded);
    }
