use Rattle.std.proofs.Common.{◌≡◌, drop}
use Rattle.store.proofs.table.Table.land.Given as goal
use Rattle.store.specs.Entries.{landed}

abbrev pub invariant-loop-e : goal.invariant-loop-e
invariant-loop-e l = landed l.t (drop l.e-index l.e-items) l.values ≡ landed l.t l.e-items l.initial.values
