-- Sums and searches over the numbers below n, for any n.
use Rattle.std.proofs.Math.Logic.{⊎_elim}
use Rattle.std.specs.Prelude.{◌≡◌, ℕ, zero, suc, ◌+◌, ◌<◌, ◌≤◌, ◌≢◌}
use Rattle.std.proofs.Math.Path.{ap, refl}
use Rattle.std.proofs.Common.{arith}
use Rattle.std.proofs.lemmas.Bool.{cases_eq}
use Rattle.store.specs.Meaning.{sum_below}

pub sum-zero : (f : ℕ → ℕ) → ((k : ℕ) → f k ≡ 0) → (n : ℕ) → sum_below f n ≡ 0
unfolding sum_below
sum-zero f h zero = refl
sum-zero f h (suc n) = omega (arith, h n, sum-zero f h n)

-- g is f but for one more at u
module _ (f g : ℕ → ℕ) (u : ℕ) (here : g u ≡ f u + 1) (else' : (k : ℕ) → (k ≢ u) → g k ≡ f k) where
  sum_before : (n : ℕ) → n ≤ u → sum_below g n ≡ sum_below f n
  unfolding sum_below
  sum_before zero le = refl
  sum_before (suc n) le = omega (arith, else' n (λ e. omega arith), sum_before n (omega arith))

  pub sum_more : (n : ℕ) → u < n → sum_below g n ≡ sum_below f n + 1
  unfolding sum_below
  sum_more zero lt = absurd (omega arith)
  sum_more (suc n) lt =
      ⊎_elim
      (λ e. omega (arith, here, ap f e, ap g e, sum_before n (omega arith)))
      (λ ne. omega (arith, else' n ne, sum_more n (omega arith)))
      (cases_eq n u)
