-- The state of a transaction after each change of the open ones.
use Rattle.std.proofs.Common.{◌≡◌, ℕ, Bool, true, false, cond, not, eqb, List, [], ◌∷◌, ◌++◌, is_some, Some, None, Option, sym, refl, ap, ◌∙◌, arith}
use Rattle.std.proofs.lemmas.Bool.{eq-eqb, ne_eqb, eqb-true, cond-true, cond-false, both_ways}
use Rattle.scheduler.specs.declared.transaction.State.{State}
use Rattle.scheduler.specs.declared.transaction.Transaction.{Transaction}
use Rattle.scheduler.specs.Ledger.{state_of, restated, closed, transaction}

pub opens-more : (u t : ℕ) (s : State) (os : List Transaction) → (u ≡ t → ⊥) → state_of u (os ++ transaction t s ∷ []) ≡ state_of u os
opens-more u t s [] n = cond-false _ _ _ (ne_eqb t u (λ e. n (sym e)))
opens-more u t s (o ∷ os) n = ap (λ (r : Option State). cond (eqb o.number u) (Some o.state) r) (opens-more u t s os n)

pub opens-new : (t : ℕ) (s : State) (os : List Transaction) → state_of t os ≡ None → state_of t (os ++ transaction t s ∷ []) ≡ Some s
opens-new t s [] h = cond-true _ _ _ (eq-eqb t t refl)
opens-new t s (o ∷ os) h = go (eqb o.number t) (opens-new t s os) h
  where
    go : (b : Bool) → (state_of t os ≡ None → state_of t (os ++ transaction t s ∷ []) ≡ Some s) → cond b (Some o.state) (state_of t os) ≡ None → cond b (Some o.state) (state_of t (os ++ transaction t s ∷ [])) ≡ Some s
    go true rest e = let z : ◌≡◌ {A = ℕ} 0 1 = cc in absurd (omega arith)
    go false rest e = rest e

pub restated_same : (t : ℕ) (s : State) (os : List Transaction) → is_some (state_of t os) ≡ true → state_of t (restated t s os) ≡ Some s
restated_same t s [] h = absurd (both_ways false refl h)
restated_same t s (o ∷ os) h = go (eqb o.number t) refl (restated_same t s os) h
  where
    go : (b : Bool) → eqb o.number t ≡ b → (is_some (state_of t os) ≡ true → state_of t (restated t s os) ≡ Some s) → is_some (cond b (Some o.state) (state_of t os)) ≡ true → state_of t (cond b (transaction t s ∷ os) (o ∷ restated t s os)) ≡ Some s
    go true e rest k = cond-true _ _ _ (eq-eqb t t refl)
    go false e rest k = cond-false _ _ _ e ∙ rest k

pub restated_other : (u t : ℕ) (s : State) (os : List Transaction) → (u ≡ t → ⊥) → state_of u (restated t s os) ≡ state_of u os
restated_other u t s [] n = refl
restated_other u t s (o ∷ os) n = go (eqb o.number t) refl (restated_other u t s os n)
  where
    go : (b : Bool) → eqb o.number t ≡ b → state_of u (restated t s os) ≡ state_of u os → state_of u (cond b (transaction t s ∷ os) (o ∷ restated t s os)) ≡ state_of u (o ∷ os)
    go true e rest = cond-false _ _ _ (ne_eqb t u (λ q. n (sym q))) ∙ sym (cond-false _ _ _ (ne_eqb o.number u (λ q. n (sym q ∙ eqb-true o.number t e))))
    go false e rest = ap (λ (r : Option State). cond (eqb o.number u) (Some o.state) r) rest

pub closed_same : (t : ℕ) (os : List Transaction) → state_of t (closed t os) ≡ None
closed_same t [] = refl
closed_same t (o ∷ os) = go (eqb o.number t) refl (closed_same t os)
  where
    go : (b : Bool) → eqb o.number t ≡ b → state_of t (closed t os) ≡ None → state_of t (cond (not b) (o ∷ closed t os) (closed t os)) ≡ None
    go true e rest = rest
    go false e rest = cond-false _ _ _ e ∙ rest

pub closed_other : (u t : ℕ) (os : List Transaction) → (u ≡ t → ⊥) → state_of u (closed t os) ≡ state_of u os
closed_other u t [] n = refl
closed_other u t (o ∷ os) n = go (eqb o.number t) refl (closed_other u t os n)
  where
    go : (b : Bool) → eqb o.number t ≡ b → state_of u (closed t os) ≡ state_of u os → state_of u (cond (not b) (o ∷ closed t os) (closed t os)) ≡ state_of u (o ∷ os)
    go true e rest = rest ∙ sym (cond-false _ _ _ (ne_eqb o.number u (λ q. n (sym q ∙ eqb-true o.number t e))))
    go false e rest = ap (λ (r : Option State). cond (eqb o.number u) (Some o.state) r) rest
