use Rattle.std.proofs.Common.{◌≡◌, ◌++◌, vec_items}
use Rattle.std.specs.Slice.Iter.{iter_rest}
use Rattle.std.specs.Iterator.Adapters.{zip_first, zip_second}
use Rattle.server.specs.Told.{bytes_of, told_all}
use Rattle.server.proofs.output.push_answers.Given as goal

abbrev pub invariant-loop-placed : goal.invariant-loop-placed
invariant-loop-placed l =
    vec_items l.out ++ bytes_of (told_all (iter_rest (zip_first l.placed-iterator)) (iter_rest (zip_second l.placed-iterator)))
    ≡ vec_items l.initial.out ++ bytes_of (told_all l.found l.answers)
