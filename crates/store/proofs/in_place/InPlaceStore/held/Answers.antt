use Rattle.std.proofs.Common.{sym, ◌∙◌}
use Rattle.store.proofs.in_place.InPlaceStore.held.Goals as goal
use Rattle.store.specs.Soundness.{held_in}

pub returns : goal.returns
returns c = let s = c.args.self.now in c.len.ensures.value ∙ sym (held_in s.images.entries.items s.values.now s.images.fits s.bounded s.apart)
