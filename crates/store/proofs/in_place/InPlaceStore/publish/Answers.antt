use Rattle.store.proofs.Images.{publish_behind, publish-pending}
use Rattle.store.proofs.Kept.{apart_kept, bounded_kept}
use Rattle.store.proofs.in_place.InPlaceStore.publish.Goals as goal
use Rattle.store.specs.Entries.{others, same_item, size_of}

pub invariant_of-self : goal.invariant_of-self
invariant_of-self c =
    let s = c.args.self.now in
    let es = s.images.entries.items in
    let q = others c.args.t in
    let gone = c.forget.ensures in
    record { apart = rw gone (apart_kept same_item q es s.apart); bounded = rw gone (bounded_kept (size_of s.values.now) q es s.bounded) }

pub returns-clause-committed : goal.returns-clause-committed
returns-clause-committed c =
    let s = c.args.self.now in
    rw c.forget.ensures (publish_behind s.images.entries.items s.values.now c.args.t s.apart)

pub returns-clause-pending : goal.returns-clause-pending
returns-clause-pending c =
    let s = c.args.self.now in
    rw c.forget.ensures (publish-pending s.images.entries.items s.values.now c.args.t)
