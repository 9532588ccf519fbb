-- The open transactions' numbers rise: where a number stands, and what keeps them rising.
use Rattle.std.proofs.Common.{◌≡◌, ℕ, zero, suc, ◌+◌, ◌<◌, ◌≤◌, Bool, true, false, cond, ◌&&◌, eqb, ltb, leb, List, [], ◌∷◌, ◌++◌, length, get_or, set, None, filter, sym, refl, ap, ◌∙◌, subst, inl, inr, arith}
use Rattle.std.proofs.lemmas.Bool.{and_from, and_parts, cases_order, cond-false, cond-true, eq-eqb, le-leb, leb-true, lt-ltb, ltb-true, ne_eqb}
use Rattle.scheduler.specs.declared.transaction.State.{State}
use Rattle.scheduler.specs.declared.transaction.Transaction.{Transaction}
use Rattle.scheduler.specs.Orders.{no_transaction, rising}
use Rattle.scheduler.specs.Found.{At}
use Rattle.scheduler.specs.Ledger.{state_of, transaction}

module _ (low last : ℕ) (o : Transaction) (os : List Transaction) (h : rising low last (o ∷ os) ≡ true) where
  pub rising_low : low < o.number
  rising_low = ltb-true low o.number (and_parts (ltb low o.number) (leb o.number last) (and_parts (ltb low o.number && leb o.number last) (rising o.number last os) h).0).0

  pub rising_last : o.number ≤ last
  rising_last = leb-true o.number last (and_parts (ltb low o.number) (leb o.number last) (and_parts (ltb low o.number && leb o.number last) (rising o.number last os) h).0).1

  pub rising-rest : rising o.number last os ≡ true
  rising-rest = (and_parts (ltb low o.number && leb o.number last) (rising o.number last os) h).1

pub rising_from : (low last : ℕ) (o : Transaction) (os : List Transaction) → low < o.number → o.number ≤ last → rising o.number last os ≡ true → rising low last (o ∷ os) ≡ true
rising_from low last o os a b c =
    and_from (ltb low o.number && leb o.number last) (rising o.number last os)
    (and_from (ltb low o.number) (leb o.number last) (lt-ltb low o.number a) (le-leb o.number last b)) c

-- every number is above low
pub rising_above : (low last : ℕ) (os : List Transaction) (k : ℕ) → rising low last os ≡ true → k < length os → low < (get_or os k no_transaction).number
rising_above low last [] k h l = absurd (omega arith)
rising_above low last (o ∷ os) zero h l = rising_low low last o os h
rising_above low last (o ∷ os) (suc k) h l =
    let r = rising_above o.number last os k (rising-rest low last o os h) (omega arith) in
    let b = rising_low low last o os h in
    omega arith

pub rising_order : (low last : ℕ) (os : List Transaction) (j k : ℕ) → rising low last os ≡ true → j < k → k < length os → (get_or os j no_transaction).number < (get_or os k no_transaction).number
rising_order low last [] j k h l m = absurd (omega arith)
rising_order low last (o ∷ os) j zero h l m = absurd (omega arith)
rising_order low last (o ∷ os) zero (suc k) h l m = rising_above o.number last os k (rising-rest low last o os h) (omega arith)
rising_order low last (o ∷ os) (suc j) (suc k) h l m = rising_order o.number last os j k (rising-rest low last o os h) (omega arith) (omega arith)

-- nowhere, or first at the place i
pub nowhere : (os : List Transaction) (t : ℕ) → ((k : ℕ) → k < length os → (get_or os k no_transaction).number ≡ t → ⊥) → state_of t os ≡ None
nowhere [] t n = refl
nowhere (o ∷ os) t n = cond-false _ _ _ (ne_eqb o.number t (n 0 (omega arith))) ∙ nowhere os t (λ k l. n (suc k) (omega arith))

pub at_place : (os : List Transaction) (t i : ℕ) → i < length os → (get_or os i no_transaction).number ≡ t → ((k : ℕ) → k < i → (get_or os k no_transaction).number ≡ t → ⊥) → At os t i
at_place [] t i l e n = absurd (omega arith)
at_place (o ∷ os) t zero l e n =
    let here : eqb o.number t ≡ true = eq-eqb o.number t e in
    record {
      within = l;
      number = e;
      state = cond-true _ _ _ here;
      change = λ s. cond-true _ _ _ here;
    }
at_place (o ∷ os) t (suc i) l e n =
    let rest = at_place os t i (omega arith) e (λ k m. n (suc k) (omega arith)) in
    let other : eqb o.number t ≡ false = ne_eqb o.number t (n 0 (omega arith)) in
    record {
      within = l;
      number = e;
      state = cond-false _ _ _ other ∙ rest.state;
      change = λ s. cond-false _ _ _ other ∙ ap (λ (r : List Transaction). o ∷ r) (rest.change s);
    }

-- one more at the end
pub rising-push : (low last n : ℕ) (os : List Transaction) (s : State) → rising low last os ≡ true → low ≤ last → last < n → rising low n (os ++ transaction n s ∷ []) ≡ true
rising-push low last n [] s h a b = rising_from low n (transaction n s) [] (omega arith) (omega arith) refl
rising-push low last n (o ∷ os) s h a b =
    let c = rising_last low last o os h in
    rising_from low n o (os ++ transaction n s ∷ []) (rising_low low last o os h) (omega arith) (rising-push o.number last n os s (rising-rest low last o os h) c b)

pub rising-set : (low last : ℕ) (os : List Transaction) (i : ℕ) (s : State) → rising low last os ≡ true → rising low last (set os i (transaction (get_or os i no_transaction).number s)) ≡ true
rising-set low last [] i s h = refl
rising-set low last (o ∷ os) zero s h = rising_from low last (transaction o.number s) os (rising_low low last o os h) (rising_last low last o os h) (rising-rest low last o os h)
rising-set low last (o ∷ os) (suc i) s h = rising_from low last o _ (rising_low low last o os h) (rising_last low last o os h) (rising-set o.number last os i s (rising-rest low last o os h))

rising_lower : (low mid last : ℕ) (os : List Transaction) → low ≤ mid → rising mid last os ≡ true → rising low last os ≡ true
rising_lower low mid last [] l h = refl
rising_lower low mid last (o ∷ os) l h = let a = rising_low mid last o os h in rising_from low last o os (omega arith) (rising_last mid last o os h) (rising-rest mid last o os h)

pub rising_kept : (q : Transaction → Bool) (low last : ℕ) (os : List Transaction) → rising low last os ≡ true → rising low last (filter q os) ≡ true
rising_kept q low last [] h = refl
rising_kept q low last (o ∷ os) h = go (q o) (rising_kept q o.number last os (rising-rest low last o os h))
  where
    go : (b : Bool) → rising o.number last (filter q os) ≡ true → rising low last (cond b (o ∷ filter q os) (filter q os)) ≡ true
    go true r = rising_from low last o (filter q os) (rising_low low last o os h) (rising_last low last o os h) r
    go false r = let a = rising_low low last o os h in rising_lower low o.number last (filter q os) (omega arith) r

pub at-rising : (low last : ℕ) (os : List Transaction) → rising low last os ≡ true → (t m : ℕ) → m < length os → (get_or os m no_transaction).number ≡ t → At os t m
at-rising low last os h t m in' e = at_place os t m in' e (λ k l d. let up = rising_order low last os k m h l in' in omega arith)

-- what a look at the place m tells of those before it and behind it
module _ (low last : ℕ) (os : List Transaction) (h : rising low last os ≡ true) (t m : ℕ) (in' : m < length os) where
  pub before_less : (get_or os m no_transaction).number < t → (k : ℕ) → k < m + 1 → (get_or os k no_transaction).number < t
  before_less l k b = elim (cases_order k m) [
    | inl e ↦ subst (λ (n : ℕ). (get_or os n no_transaction).number < t) (sym e) l
    | inr s ↦ elim s [
      | inl x ↦ let r = rising_order low last os k m h x in' in omega arith
      | inr x ↦ absurd (omega arith)
    ]
  ]

  pub behind_more : t < (get_or os m no_transaction).number → (k : ℕ) → m ≤ k → k < length os → t < (get_or os k no_transaction).number
  behind_more l k b c = elim (cases_order k m) [
    | inl e ↦ subst (λ (n : ℕ). t < (get_or os n no_transaction).number) (sym e) l
    | inr s ↦ elim s [
      | inl x ↦ absurd (omega arith)
      | inr x ↦ let r = rising_order low last os m k h x c in omega arith
    ]
  ]
