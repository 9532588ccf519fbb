use Rattle.std.proofs.Common.{sym, ◌∙◌}
use Rattle.store.proofs.private.PrivateStore.held.Goals as goal
use Rattle.store.specs.Soundness.{held_beside}

pub returns : goal.returns
returns c = let s = c.args.self.now in c.len.ensures.value ∙ sym (held_beside s.writes.entries.items s.values.now s.writes.fits s.bounded s.apart)
