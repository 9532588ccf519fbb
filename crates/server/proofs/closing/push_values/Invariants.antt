use Rattle.std.proofs.Common.{◌≡◌, ◌++◌, drop, vec_items}
use Rattle.store.specs.Meaning.{laid}
use Rattle.server.specs.Told.{bytes_of, holding}
use Rattle.server.proofs.closing.push_values.Given as goal

abbrev pub invariant-loop-index : goal.invariant-loop-index
invariant-loop-index g l =
    let vs = laid (g.S.Store.pending l.store 0) (g.S.Store.committed l.store) in
    vec_items l.out ++ bytes_of (holding l.index (drop l.index vs)) ≡ vec_items l.initial.out ++ bytes_of (holding 0 vs)
