-- The places from which a way leads to a place are gathered by widening.
use Rattle.std.proofs.Common.{◌≡◌, ℕ, ◌+◌, ◌<◌, ◌≤◌, Bool, true, false, ◌||◌, eqb, List, get_or, Decides, sym, refl, ap, ◌∙◌, subst, inl, inr, arith, below_more}
use Rattle.std.proofs.lemmas.Bool.{both_ways, cases_Bool, eq-eqb, eqb-true, or_cases}
use Rattle.scheduler.specs.declared.places.Places.{Places}
use Rattle.scheduler.specs.Bits.{has}
use Rattle.scheduler.proofs.Bit.{has-none}
use Rattle.scheduler.specs.ItemSets.{no_places}
use Rattle.scheduler.specs.Ways.{Way, Widened, back, next, start}

-- the places of m lead to a, which is one of them
pub record Leading (rows : List Places) (a m : ℕ) : Type 0 where
  pub begin : has m a ≡ true
  pub sound : (p : ℕ) → has m p ≡ true → Way (back rows) a p

module _ {rows : List Places} {a : ℕ} where
  pub leading-one : (m : ℕ) → ((p : ℕ) → has m p ≡ (has 0 p || eqb a p)) → Leading rows a m
  leading-one m is = record {
    begin = alone a ∙ eq-eqb a a refl;
    sound = λ p h. subst (Way (back rows) a) (eqb-true a p (sym (alone p) ∙ h)) start;
  }
    where
      alone : (p : ℕ) → has m p ≡ eqb a p
      alone p = is p ∙ ap (λ (b : Bool). b || eqb a p) (has-none p)

  pub leading_widened : {m n : ℕ} → Leading rows a m → Widened rows m n → Leading rows a n
  leading_widened {m} {n} l w = record {
    begin = w.kept a l.begin;
    sound = λ p h. elim (cases_Bool (has m p)) [
      | inl old ↦ l.sound p old
      | inr new ↦ let q = w.led p h new in next p (l.sound q.1.0 q.1.1) q.0 q.1.2
    ];
  }

  -- where nothing is new, every place is there
  pub leading-all : {m : ℕ} → Leading rows a m → Widened rows m m → (p : ℕ) → Decides (has m p) (Way (back rows) a p)
  leading-all {m} l w p = (l.sound p, reached p)
    where
      reached : (p : ℕ) → Way (back rows) a p → has m p ≡ true
      reached p start = l.begin
      reached p (next {b} c way h x) = w.full b c h (reached b way) x

-- while the places below k were looked at
pub record Widening (rows : List Places) (m k n : ℕ) : Type 0 where
  pub more : m ≤ n
  pub kept : (p : ℕ) → has m p ≡ true → has n p ≡ true
  pub led : (p : ℕ) → has n p ≡ true → has m p ≡ false → (p < 64) × ((a : ℕ) × (has m a ≡ true) × (back rows a p ≡ true))
  pub full : (p : ℕ) → p < k → (a : ℕ) → has m a ≡ true → back rows a p ≡ true → has n p ≡ true

pub widening-none : (rows : List Places) (m : ℕ) → Widening rows m 0 m
widening-none rows m = record {
  more = omega arith;
  kept = λ p h. h;
  led = λ p h no'. absurd (both_ways (has m p) no' h);
  full = λ p l. absurd (omega arith);
}

module _ {rows : List Places} {m k n : ℕ} where
  -- the place k leads to none of m
  pub widening_past : Widening rows m k n → ((a : ℕ) → has m a ≡ true → back rows a k ≡ true → ⊥) → Widening rows m (k + 1) n
  widening_past w none = record {
    more = w.more;
    kept = w.kept;
    led = w.led;
    full = below_more (λ p. (a : ℕ) → has m a ≡ true → back rows a p ≡ true → has n p ≡ true) k w.full (λ a h x. absurd (none a h x));
  }

  -- the place k leads to one of m, and is put to n
  pub widening_with : Widening rows m k n → k < 64 → (o : ℕ) → n ≤ o → ((p : ℕ) → has o p ≡ (has n p || eqb k p))
      → (a : ℕ) × (has (get_or rows k no_places).bits a ≡ true) × (has m a ≡ true) → Widening rows m (k + 1) o
  widening_with w l o up is q = record {
    more = omega (arith, w.more, up);
    kept = λ p h. kept p (w.kept p h);
    led = λ p h no'. elim (or_cases (has n p) (eqb k p) (sym (is p) ∙ h)) [
      | inl old ↦ w.led p old no'
      | inr new ↦ subst (λ (b : ℕ). (b < 64) × ((a : ℕ) × (has m a ≡ true) × (back rows a b ≡ true))) (eqb-true k p new) (l, (q.0, q.2, q.1))
    ];
    full = below_more (λ p. (a : ℕ) → has m a ≡ true → back rows a p ≡ true → has o p ≡ true) k
        (λ p b a h x. kept p (w.full p b a h x))
        (λ a h x. is k ∙ ap (λ (b : Bool). has n k || b) (eq-eqb k k refl) ∙ or_true (has n k));
  }
    where
      or_true : (b : Bool) → (b || true) ≡ true
      or_true true = refl
      or_true false = refl

      kept : (p : ℕ) → has n p ≡ true → has o p ≡ true
      kept p h = is p ∙ ap (λ (b : Bool). b || eqb k p) h

  pub widening-end : Widening rows m k n → 64 ≤ k → Widened rows m n
  widening-end w e = record { more = w.more; kept = w.kept; led = w.led; full = λ a p l. w.full p (omega (arith, l, e)) a }
