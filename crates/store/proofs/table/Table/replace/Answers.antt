use Rattle.std.proofs.Common.{length, ap, ◌∙◌, arith, w32, to_z, of_z}
use Rattle.std.proofs.lemmas.Int.{to_z-of_z}
use Rattle.store.proofs.Kept.{length-revalued}
use Rattle.store.proofs.Scans.{items-set_value}
use Rattle.store.proofs.table.Table.replace.Goals as goal
use Rattle.store.specs.Entries.{revalued}

pub invariant_of-self : goal.invariant_of-self
invariant_of-self c =
    let s = c.args.self.now in
    let es = s.entries.items in
    let k = c.args.k in
    let x = to_z w32 (of_z w32 c.args.value) in
    let now = items-set_value s.entries c.deref_mut.result.now k x c.deref_mut.ensures.value in
    record { fits = omega (arith, ap length now, length-revalued es k x, s.fits) }

pub returns : goal.returns
returns c =
    let s = c.args.self.now in
    items-set_value s.entries c.deref_mut.result.now c.args.k _ c.deref_mut.ensures.value
    ∙ ap (revalued s.entries.items c.args.k) (to_z-of_z w32 c.args.value c.ranges.value)
