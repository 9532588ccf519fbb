use Rattle.std.proofs.Common.{arith}
use Rattle.store.proofs.in_place.InPlaceStore.size.Goals as goal
use Rattle.store.proofs.Images.{length_behind}

pub returns : goal.returns
returns c = let s = c.args.self.now in omega (arith, length_behind s.images.entries.items s.values.now)
