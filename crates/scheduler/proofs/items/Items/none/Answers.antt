use Rattle.scheduler.proofs.ItemSet.{no_items}
use Rattle.scheduler.proofs.items.Items.none.Goals as goal

pub returns : goal.returns
returns c = no_items 1024
