use Rattle.std.proofs.lemmas.List.Filters.{FiltersInPlace}
use Rattle.store.specs.Belonging.{of_others}
use Rattle.store.proofs.belonging.move_up.Given as goal

abbrev pub invariant-loop-i : goal.invariant-loop-i
invariant-loop-i g l = FiltersInPlace (of_others g.T.Belongs.owner l.t) l.initial.items l.items l.kept l.i
