use Rattle.std.proofs.Common.{sym}
use Rattle.std.proofs.lemmas.List.{take-append-drop}
use Rattle.store.proofs.private.PrivateOnSlice.values.Goals as goal

pub returns : goal.returns
returns c = sym (take-append-drop 1024 c.args.self.now.values.now)
