use Rattle.std.proofs.Common.{◌/◌, ◌<◌, length, arith}
use Rattle.scheduler.proofs.ItemSet.{one_item}
use Rattle.scheduler.proofs.items.Items.insert.Goals as goal

pub returns : goal.returns
returns c =
    let l : c.args.item / 64 < length c.args.self.now.words = omega arith in
    one_item c.args.self.now.words c.args.item c.with.result l c.with.ensures.value
