use Rattle.std.proofs.lemmas.List.{take-append-drop}
use Rattle.store.proofs.private.PrivateOnSlice.open.Goals as goal

pub returns-clause-slice : goal.returns-clause-slice
returns-clause-slice c = take-append-drop 1024 c.args.values.now
