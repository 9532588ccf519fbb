use Rattle.std.proofs.Common.{◌^◌, ◌<◌, rules}
use Rattle.scheduler.proofs.Bit.{has_shared}
use Rattle.scheduler.proofs.places.Places.meets.Goals as goal

pub returns : goal.returns
returns c = let small : c.args.self.bits < 2 ^ 64 = search rules in has_shared c.args.self.bits c.args.other.bits small
