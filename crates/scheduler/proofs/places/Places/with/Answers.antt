use Rattle.std.proofs.lemmas.Nat.{le_or_l}
use Rattle.scheduler.proofs.Bit.{has_set}
use Rattle.scheduler.proofs.places.Places.with.Goals as goal

pub returns : goal.returns
returns c = record { value = has_set c.args.self.bits c.args.place c.requires; grows = le_or_l c.args.self.bits _ }
