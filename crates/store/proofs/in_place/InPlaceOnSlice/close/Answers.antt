use Rattle.store.proofs.in_place.InPlaceOnSlice.close.Goals as goal
use Rattle.store.proofs.Overlaid.{slice_holds}

pub returns-clause-slice : goal.returns-clause-slice
returns-clause-slice c = let s = c.args.self in slice_holds s.images.entries.items s.values.now s.bounded s.apart
