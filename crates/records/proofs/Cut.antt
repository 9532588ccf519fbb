-- An answer whose body is shorter than its kind has it is cut short.
use Rattle.std.proofs.Common.{◌≡◌, ℕ, ◌<◌, ◌≤◌, List, ◌∷◌, length, Err, arith}
use Rattle.std.proofs.lemmas.Bool.Decides.{nat_tests}
use Rattle.records.specs.Layout.{cut_short}
use Rattle.records.specs.AnswerRecords.{read_answer, body_length}

pub answer_cut : (k : ℕ) (body : List ℕ) → 17 ≤ k → k ≤ 26 → length body < body_length k → read_answer (k ∷ body) ≡ Err cut_short
answer_cut k body l u h = grind (arith, nat_tests)
