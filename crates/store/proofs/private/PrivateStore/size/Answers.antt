use Rattle.std.proofs.Common.{arith}
use Rattle.store.proofs.Landing.{length_items}
use Rattle.store.proofs.private.PrivateStore.size.Goals as goal

pub returns : goal.returns
returns c = omega (arith, length_items c.args.self.now.values.now)
