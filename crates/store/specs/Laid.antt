-- Values laid over others, by places.
use Rattle.std.specs.Prelude.{◌≡◌, ℕ, zero, suc, ◌<◌, List, [], ◌∷◌, length, ℤ, pos, Option, slice_index_or, refl}
use Rattle.std.proofs.Common.{ap, arith}
use Rattle.std.specs.Option.{unwrap_or}
use Rattle.store.specs.Meaning.{laid}

pub length-laid : (row : ℕ → Option ℤ) (cs : List ℤ) → length (laid row cs) ≡ length cs
length-laid row [] = refl
length-laid row (c ∷ cs) = ap suc (length-laid (λ i. row (suc i)) cs)

pub get_or-laid : (row : ℕ → Option ℤ) (cs : List ℤ) (i : ℕ) → i < length cs → slice_index_or (laid row cs) i (pos 0) ≡ unwrap_or (row i) (slice_index_or cs i (pos 0))
get_or-laid row [] i lt = absurd (omega arith)
get_or-laid row (c ∷ cs) zero lt = refl
get_or-laid row (c ∷ cs) (suc i) lt = get_or-laid (λ j. row (suc j)) cs i (omega arith)
