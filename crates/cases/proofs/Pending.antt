-- A write makes one pending write more at most.
use Rattle.std.proofs.Common.{◌≡◌, ℕ, zero, suc, ◌+◌, ◌<◌, ◌≤◌, Bool, true, false, cond, not, ◌&&◌, eqb, leb, ◌⊎◌, List, length, ℤ, is_some, Some, None, Option, refl, ap, inl, inr, ⊎_elim, arith}
use mathlib.Core.Path.{fun_ext}
use Rattle.std.proofs.lemmas.Bool.{and_left, and_right, cases_eq, cond-false, lt-leb, ne_eqb, or_from}
use Rattle.store.proofs.Refusals.{has_room}
use Rattle.store.specs.Meaning.{Writes, count_below, held_count, nothing, refused, row_count, sum_below, taken, written}
use Rattle.store.specs.Sums.{sum-zero}
use Rattle.scheduler.specs.Steps.{Terms}

-- g is nowhere above f, but by one at u
module _ (f g : ℕ → ℕ) (u : ℕ) (here : g u ≤ f u + 1) (else' : (k : ℕ) → (k ≡ u → ⊥) → g k ≤ f k) where
  sum_before : (n : ℕ) → n ≤ u → sum_below g n ≤ sum_below f n
  unfolding sum_below
  sum_before zero le = omega arith
  sum_before (suc n) le = omega (arith, else' n (λ e. omega arith), sum_before n (omega arith))

  sum_most : (n : ℕ) → sum_below g n ≤ sum_below f n + 1
  unfolding sum_below
  sum_most zero = omega arith
  sum_most (suc n) =
      ⊎_elim
      (λ e. omega (arith, here, ap f e, ap g e, sum_before n (omega arith)))
      (λ ne. omega (arith, else' n ne, sum_most n))
      (cases_eq n u)

one_at_most : (b : Bool) → cond b 1 0 ≤ 1
one_at_most true = omega arith
one_at_most false = omega arith

module _ (p : Writes) (t i : ℕ) (v : ℤ) where
  pub written_elsewhere : (u j : ℕ) → (u ≡ t → ⊥) ⊎ (j ≡ i → ⊥) → written p t i v u j ≡ p u j
  written_elsewhere u j ne =
      cond-false (eqb u t && eqb j i) (Some v) (p u j)
      (⊎_elim (λ n. and_left (eqb u t) (eqb j i) (ne_eqb u t n)) (λ n. and_right (eqb u t) (eqb j i) (ne_eqb j i n)) ne)

  row_own : (n : ℕ) → row_count (written p t i v) t n ≤ row_count p t n + 1
  row_own =
      let one : Option ℤ → ℕ = λ o. cond (is_some o) 1 0 in
      sum_most (λ j. one (p t j)) (λ j. one (written p t i v t j)) i
      (omega (arith, one_at_most (is_some (written p t i v t i))))
      (λ j ne. omega (arith, ap one (written_elsewhere t j (inr ne))))

  row_other : (u n : ℕ) → (u ≡ t → ⊥) → row_count (written p t i v) u n ≡ row_count p u n
  row_other u n ne = ap (λ (row : ℕ → Option ℤ). count_below (λ j. is_some (row j)) n) (fun_ext (λ j. written_elsewhere u j (inl ne)))

-- there are m pending writes at most
pub record Few (p : Writes) (m : ℕ) : Type 0 where
  pub in_all : (n : ℕ) → held_count p n ≤ m
  pub of_each : (t n : ℕ) → row_count p t n ≤ m

row_nothing : (t n : ℕ) → row_count nothing t n ≡ 0
row_nothing t n = sum-zero _ (λ j. refl) n

pub none-held : (n : ℕ) → held_count nothing n ≡ 0
none-held n = sum-zero _ (λ t. row_nothing t n) 65536

pub few_nothing : (m : ℕ) → Few nothing m
few_nothing m = record { in_all = λ n. omega (arith, none-held n); of_each = λ t n. omega (arith, row_nothing t n) }

pub few_written : {p : Writes} {m : ℕ} (t i : ℕ) (v : ℤ) → Few p m → Few (written p t i v) (m + 1)
few_written {p} {m} t i v F = record {
  in_all = λ n. omega (arith, F.in_all n, sum_most (λ u. row_count p u n) (λ u. row_count (written p t i v) u n) t (row_own p t i v n) (λ u ne. omega (arith, row_other p t i v u n ne)) 65536);
  of_each = λ u n. ⊎_elim
      (λ e. omega (arith, F.of_each u n, ap (λ (w : ℕ). row_count (written p t i v) w n) e, ap (λ (w : ℕ). row_count p w n) e, row_own p t i v n))
      (λ ne. omega (arith, F.of_each u n, row_other p t i v u n ne))
      (cases_eq u t);
}

-- so a put of a new write is not refused for want of room
pub accepted : (k : Terms) (cs : List ℤ) (p : Writes) (t i m : ℕ) → Few p m → m < k.room → m < k.share → i < length cs → (not k.private && taken p t i) ≡ false → is_some (p t i) ≡ false
    → refused k.private k.room k.share cs p t i ≡ None
accepted k cs p t i m F room share lt free new =
    has_room k.private k.room k.share cs p t i (lt-leb (length cs) i lt) free new
    (or_from (eqb (held_count p (length cs)) k.room) (leb k.share (row_count p t (length cs)))
    (ne_eqb (held_count p (length cs)) k.room (λ e. omega (arith, F.in_all (length cs))))
    (lt-leb k.share (row_count p t (length cs)) (omega (arith, F.of_each t (length cs)))))
