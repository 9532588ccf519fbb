use Rattle.std.proofs.Common.{◌<◌, length, arith}
use Rattle.std.proofs.lemmas.List.Filters.{FiltersInPlace-more_no, FiltersInPlace-more_set}
use Rattle.std.proofs.lemmas.Bool.Decides.{nat_tests}
use Rattle.store.proofs.belonging.move_up.Goals as goal
use Rattle.store.proofs.belonging.move_up.Goals.{then-owner-t, else-owner-t}

pub loop-i-preserved : goal.loop-i-preserved
loop-i-preserved g c =
    let x = c.index-items-i.result in
    let in' : c.loop-i.i < length c.loop-i.items = omega (arith, c.loop-i.invariant.long) in
    elim c.if-owner-t.branch [
      | then-owner-t w ↦ rw (w.items-is, w.kept-is) (FiltersInPlace-more_set c.loop-i.invariant in' (grind (arith, nat_tests, c.owner.ensures, w.if-owner-t.true)) c.index-items-i.is)
      | else-owner-t w ↦ rw (w.items-is, w.kept-is) (FiltersInPlace-more_no {x = x} c.loop-i.invariant in' (grind (arith, nat_tests, c.owner.ensures, w.if-owner-t.false)) c.index-items-i.is)
    ]
