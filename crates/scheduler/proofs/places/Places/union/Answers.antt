use Rattle.scheduler.proofs.Bit.{has_or}
use Rattle.scheduler.proofs.places.Places.union.Goals as goal

pub returns : goal.returns
returns c = has_or c.args.self.bits c.args.other.bits
