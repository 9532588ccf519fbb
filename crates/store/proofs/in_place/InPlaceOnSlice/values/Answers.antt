use Rattle.store.proofs.in_place.InPlaceOnSlice.values.Goals as goal
use Rattle.store.proofs.Overlaid.{slice_holds}

pub returns : goal.returns
returns c = let s = c.args.self.now in slice_holds s.images.entries.items s.values.now s.bounded s.apart
