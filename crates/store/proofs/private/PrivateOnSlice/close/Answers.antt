use Rattle.std.proofs.Common.{sym}
use Rattle.std.proofs.lemmas.List.{take-append-drop}
use Rattle.store.proofs.private.PrivateOnSlice.close.Goals as goal

pub returns-clause-slice : goal.returns-clause-slice
returns-clause-slice c = sym (take-append-drop 1024 c.args.self.values.now)
