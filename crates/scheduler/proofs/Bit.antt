-- The places of a number are its bits.
use lib.Bits.{bit_and, bit_or}
use Rattle.std.proofs.Common.{Decides, ◌≡◌, ℕ, zero, suc, ◌*◌, ◌%◌, ◌^◌, ◌<◌, ◌≤◌, min, max, Bool, true, false, not, ◌&&◌, ◌||◌, eqb, sym, refl, ap, ◌∙◌, subst, inl, inr, w64, arith}
use Rattle.std.proofs.Math.Bool.{and-false, and-true, or-false, or-true}
use Rattle.std.specs.Int.{bit_not, trailing_zeros}
use Rattle.std.proofs.lemmas.Bool.{and_from, and_parts, both_ways, cases_eq, cases_lt, eq-eqb, eqb-false, ne_eqb, not-true}
use Rattle.std.proofs.lemmas.Nat.{and_le_l}
use Rattle.std.proofs.lemmas.Nat.Bits.{bit_at-lt, bit_at-trailing_zeros, bit_at-zero, bit_at_above, bit_at_and, bit_at_clear_other, bit_at_clear_same, bit_at_or, bit_at_set_other, bit_at_set_same}
use Rattle.scheduler.specs.Bits.{has}

has_max : (x y : ℕ) → x < 2 → y < 2 → eqb (max x y) 1 ≡ (eqb x 1 || eqb y 1)
has_max zero zero h k = refl
has_max zero (suc zero) h k = refl
has_max (suc zero) zero h k = refl
has_max (suc zero) (suc zero) h k = refl
has_max (suc (suc x)) y h k = absurd (omega arith)
has_max x (suc (suc y)) h k = absurd (omega arith)

has_min : (x y : ℕ) → x < 2 → y < 2 → eqb (min x y) 1 ≡ (eqb x 1 && eqb y 1)
has_min zero zero h k = refl
has_min zero (suc zero) h k = refl
has_min (suc zero) zero h k = refl
has_min (suc zero) (suc zero) h k = refl
has_min (suc (suc x)) y h k = absurd (omega arith)
has_min x (suc (suc y)) h k = absurd (omega arith)

pub has-none : (p : ℕ) → has 0 p ≡ false
has-none p = ap (λ (n : ℕ). eqb n 1) (bit_at-zero p)

pub has_or : (a b p : ℕ) → has (bit_or a b) p ≡ (has a p || has b p)
has_or a b p = ap (λ (n : ℕ). eqb n 1) (bit_at_or a b p) ∙ has_max _ _ (bit_at-lt a p) (bit_at-lt b p)

pub has_and : (a b p : ℕ) → has (bit_and a b) p ≡ (has a p && has b p)
has_and a b p = ap (λ (n : ℕ). eqb n 1) (bit_at_and a b p) ∙ has_min _ _ (bit_at-lt a p) (bit_at-lt b p)

pub has_set : (n k : ℕ) → k < 64 → (p : ℕ) → has (bit_or n (1 * 2 ^ k % 2 ^ 64)) p ≡ (has n p || eqb k p)
has_set n k l p = elim (cases_eq p k) [
  | inl e ↦
      subst (λ (q : ℕ). has (bit_or n (1 * 2 ^ k % 2 ^ 64)) q ≡ (has n q || eqb k q)) (sym e)
      (ap (λ (x : ℕ). eqb x 1) (bit_at_set_same w64 n k l) ∙ sym (or-true (has n k)) ∙ ap (λ (b : Bool). has n k || b) (sym (eq-eqb k k refl)))
  | inr ne ↦ ap (λ (x : ℕ). eqb x 1) (bit_at_set_other w64 n k l p ne) ∙ sym (or-false (has n p)) ∙ ap (λ (b : Bool). has n p || b) (sym (ne_eqb k p (λ e. ne (sym e))))
]

has_above : (n p : ℕ) → n < 2 ^ 64 → 64 ≤ p → has n p ≡ false
has_above n p l h = ap (λ (x : ℕ). eqb x 1) (bit_at_above n 64 p l h)

pub has_clear : (n k : ℕ) → k < 64 → n < 2 ^ 64 → (p : ℕ) → has (bit_and n (bit_not w64 (1 * 2 ^ k % 2 ^ 64))) p ≡ (has n p && not (eqb k p))
has_clear n k l small p = elim (cases_eq p k) [
  | inl e ↦
      subst (λ (q : ℕ). has (bit_and n (bit_not w64 (1 * 2 ^ k % 2 ^ 64))) q ≡ (has n q && not (eqb k q))) (sym e)
      (ap (λ (x : ℕ). eqb x 1) (bit_at_clear_same w64 n k l) ∙ sym (and-false (has n k)) ∙ ap (λ (b : Bool). has n k && not b) (sym (eq-eqb k k refl)))
  | inr ne ↦ elim (cases_lt p 64) [
    | inl in' ↦ ap (λ (x : ℕ). eqb x 1) (bit_at_clear_other w64 n k l p in' ne) ∙ sym (and-true (has n p)) ∙ ap (λ (b : Bool). has n p && not b) (sym (ne_eqb k p (λ e. ne (sym e))))
    | inr out ↦ has_and n (bit_not w64 (1 * 2 ^ k % 2 ^ 64)) p ∙ ap (λ (b : Bool). b && has (bit_not w64 (1 * 2 ^ k % 2 ^ 64)) p) (has_above n p small out) ∙ sym (ap (λ (b : Bool). b && not (eqb k p)) (has_above n p small out))
  ]
]

-- two numbers share a place exactly if what they share is not 0
pub has_shared : (a b : ℕ) → a < 2 ^ 64 → Decides (not (eqb (bit_and a b) 0)) ((p : ℕ) × (has a p ≡ true) × (has b p ≡ true))
has_shared a b small = (there, back)
  where
    there : not (eqb (bit_and a b) 0) ≡ true → (p : ℕ) × (has a p ≡ true) × (has b p ≡ true)
    there h =
        let p = trailing_zeros w64 (bit_and a b) in
        let one = (bit_at-trailing_zeros w64 (bit_and a b) (positive (eqb-false (bit_and a b) 0 (not-true _ h))) (below (and_le_l a b) small)).1 in
        let both = and_parts (has a p) (has b p) (sym (has_and a b p) ∙ ap (λ (n : ℕ). eqb n 1) one) in
        (p, both.0, both.1)
      where
        positive : {n : ℕ} → (n ≡ 0 → ⊥) → 0 < n
        positive ne = omega arith

        below : {n m : ℕ} → n ≤ m → m < 2 ^ 64 → n < 2 ^ 64
        below l h = omega (arith, l, h)

    back : (p : ℕ) × (has a p ≡ true) × (has b p ≡ true) → not (eqb (bit_and a b) 0) ≡ true
    back q = ap not (ne_eqb (bit_and a b) 0 (λ e. both_ways (has (bit_and a b) q.0) (ap (λ (n : ℕ). has n q.0) e ∙ has-none q.0) (has_and a b q.0 ∙ and_from (has a q.0) (has b q.0) q.1 q.2)))
