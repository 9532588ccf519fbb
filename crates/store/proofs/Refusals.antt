-- A put's refusal, test by test.
use Rattle.std.proofs.Common.{◌≡◌, ℕ, zero, suc, ◌<◌, Bool, true, false, cond, not, ◌&&◌, ◌||◌, eqb, leb, List, length, ℤ, is_some, Some, None, Option, refl, ap, ◌∙◌, ⊎_elim, arith}
use Rattle.records.specs.declared.refusal.Reason.TheVariants.{ItemTaken, NoRoom, NoSuchItem}
use Rattle.records.specs.declared.refusal.Refusal.{Refusal}
use Rattle.std.proofs.lemmas.Bool.{and_from, and_left, and_right, cases_eq, cond-false, cond-true, eq-eqb, ne_eqb, or_from, or_left, or_right}
use Rattle.store.specs.Meaning.{Writes, any_below, held_count, of_store, refused, row_count, taken}

any_none : (q : ℕ → Bool) → ((k : ℕ) → q k ≡ false) → (n : ℕ) → any_below q n ≡ false
unfolding any_below
any_none q h zero = refl
any_none q h (suc n) = or_from (q n) (any_below q n) (h n) (any_none q h n)

any_some : (q : ℕ → Bool) (u : ℕ) → q u ≡ true → (n : ℕ) → u < n → any_below q n ≡ true
unfolding any_below
any_some q u h zero lt = absurd (omega arith)
any_some q u h (suc n) lt =
    ⊎_elim
    (λ e. or_left (q n) (any_below q n) (ap q e ∙ h))
    (λ ne. or_right (q n) (any_below q n) (any_some q u h n (omega arith)))
    (cases_eq n u)

pub not_taken : (p : Writes) (t i : ℕ) → ((u : ℕ) → (u ≡ t → ⊥) → is_some (p u i) ≡ false) → taken p t i ≡ false
not_taken p t i h =
    any_none (λ u. not (eqb u t) && is_some (p u i))
    (λ u. ⊎_elim (λ e. and_left (not (eqb u t)) (is_some (p u i)) (ap not (eq-eqb u t e))) (λ ne. and_right (not (eqb u t)) (is_some (p u i)) (h u ne)) (cases_eq u t))
    65536

pub is_taken : (p : Writes) (t i u : ℕ) → (u ≡ t → ⊥) → is_some (p u i) ≡ true → u < 65536 → taken p t i ≡ true
is_taken p t i u ne h lt = any_some (λ w. not (eqb w t) && is_some (p w i)) u (and_from (not (eqb u t)) (is_some (p u i)) (ap not (ne_eqb u t ne)) h) 65536 lt

module _ (private : Bool) (room share : ℕ) (cs : List ℤ) (p : Writes) (t i : ℕ) where
  abbrev full : Bool
  full = eqb (held_count p (length cs)) room || leb share (row_count p t (length cs))

  abbrev last : Option Refusal
  last = cond full (Some (of_store NoRoom)) None

  abbrev inner : Option Refusal
  inner = cond (is_some (p t i)) None last

  abbrev middle : Option Refusal
  middle = cond (not private && taken p t i) (Some (of_store ItemTaken)) inner

  pub no_such_item : leb (length cs) i ≡ true → refused private room share cs p t i ≡ Some (of_store NoSuchItem)
  no_such_item h = cond-true (leb (length cs) i) (Some (of_store NoSuchItem)) middle h

  module _ (there : leb (length cs) i ≡ false) where
    past_item : refused private room share cs p t i ≡ middle
    past_item = cond-false (leb (length cs) i) (Some (of_store NoSuchItem)) middle there

    pub item_taken : (not private && taken p t i) ≡ true → refused private room share cs p t i ≡ Some (of_store ItemTaken)
    item_taken h = past_item ∙ cond-true (not private && taken p t i) (Some (of_store ItemTaken)) inner h

    module _ (free : (not private && taken p t i) ≡ false) where
      past_taken : refused private room share cs p t i ≡ inner
      past_taken = past_item ∙ cond-false (not private && taken p t i) (Some (of_store ItemTaken)) inner free

      pub has_one : is_some (p t i) ≡ true → refused private room share cs p t i ≡ None
      has_one h = past_taken ∙ cond-true (is_some (p t i)) None last h

      pub no_room : is_some (p t i) ≡ false → full ≡ true → refused private room share cs p t i ≡ Some (of_store NoRoom)
      no_room h f = past_taken ∙ cond-false (is_some (p t i)) None last h ∙ cond-true full (Some (of_store NoRoom)) None f

      pub has_room : is_some (p t i) ≡ false → full ≡ false → refused private room share cs p t i ≡ None
      has_room h f = past_taken ∙ cond-false (is_some (p t i)) None last h ∙ cond-false full (Some (of_store NoRoom)) None f
