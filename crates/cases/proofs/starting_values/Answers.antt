use Rattle.std.proofs.Common.{replicate, pos, refl, ⊎_elim, arith}
use Rattle.std.proofs.lemmas.List.{get_or_past, get_or-replicate, length-replicate}
use Rattle.std.proofs.lemmas.Bool.{cases_lt}
use Rattle.cases.proofs.Cases.{worked}
use Rattle.cases.proofs.starting_values.Goals as goal

pub returns : goal.returns
returns c =
    let long = length-replicate 1024 (pos 0) in
    record {
      zeros = refl;
      worked_cases = worked (replicate 1024 (pos 0)) long (λ i. ⊎_elim (get_or-replicate 1024 i (pos 0) (pos 0)) (λ le. get_or_past (replicate 1024 (pos 0)) i (pos 0) (omega arith)) (cases_lt i 1024));
    }
