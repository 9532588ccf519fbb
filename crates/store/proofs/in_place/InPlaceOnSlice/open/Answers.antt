use Rattle.store.proofs.in_place.InPlaceOnSlice.open.Goals as goal
use Rattle.store.proofs.Openings.{laid-nothing}
use Rattle.store.proofs.Overlaid.{slice_still}
use Rattle.store.specs.Slices.{items}

pub returns-clause-committed : goal.returns-clause-committed
returns-clause-committed c = rw c.new-images.ensures (laid-nothing (items c.args.values.now))

pub returns-clause-slice : goal.returns-clause-slice
returns-clause-slice c = let vs = c.args.values.now in rw (c.new-images.ensures, laid-nothing (items vs)) (slice_still vs)
