use Rattle.std.proofs.Common.{◌^◌, ◌<◌, rules}
use Rattle.scheduler.proofs.Bit.{has_clear}
use Rattle.scheduler.proofs.places.Places.without.Goals as goal

pub returns : goal.returns
returns c = let small : c.args.self.bits < 2 ^ 64 = search rules in has_clear c.args.self.bits c.args.place c.requires small
