use Rattle.std.proofs.Common.{ap}
use Rattle.store.proofs.lending.rehearse_on.Goals as goal
use Rattle.store.specs.Meaning.{Place, Writes}

pub returns-clause-slice : goal.returns-clause-slice
returns-clause-slice g c =
    let was = c.open-store.ensures in
    let did = c.rehearse-count.ensures in
    let outside = ap (λ (p : Place). p.outside) did.place in
    let pending = did.untouched (λ i. ap (λ (p : Writes). p c.args.t i) was.pending) in
    rw (c.close.ensures.slice, did.committed, pending, outside) was.slice
