-- Writes that are tried and then dropped.
use Rattle.std.proofs.Common.{◌≡◌, ℕ, suc, ◌+◌, ◌<◌, Bool, true, false, cond, ◌&&◌, eqb, leb, List, length, get_or, drop, ℤ, pos, is_some, is_ok, Some, None, Ok, Err, Option, Result, unwrap_or, sym, refl, ap, ◌∙◌, ⊎_elim}
use mathlib.Core.Path.{fun_ext}
use Rattle.records.specs.declared.refusal.Reason.TheVariants.{NoSuchItem}
use Rattle.records.specs.declared.refusal.Refusal.{Refusal}
use Rattle.std.proofs.lemmas.List.{at_drop_more}
use Rattle.std.proofs.lemmas.Bool.{cases_eq, cond-false, cond-true, eq-eqb, false≢true, ne_eqb}
use Rattle.store.specs.declared.rehearsal.Write.{Write}
use Rattle.store.specs.Meaning.{Writes, answered, looked, of_store, refused, without, written}
use Rattle.store.specs.Rehearsals.{accepted}

abbrev pub no_write : Write
no_write = record { item = 0; value = pos 0 }

pub without-written : (p : Writes) (t i : ℕ) (v : ℤ) → without (written p t i v) t ≡ without p t
without-written p t i v = fun_ext (λ u. fun_ext (λ j. elim (eqb u t) as (λ b. cond b None (cond (b && eqb j i) (Some v) (p u j)) ≡ cond b None (p u j)) [ true ↦ refl | false ↦ refl ]))

pub without-none : (p : Writes) (t : ℕ) → ((i : ℕ) → p t i ≡ None) → without p t ≡ p
without-none p t none =
    fun_ext (λ u. fun_ext (λ j.
    ⊎_elim
    (λ same. cond-true (eqb u t) None (p u j) (eq-eqb u t same) ∙ sym (ap (λ (w : ℕ). p w j) same ∙ none j))
    (λ differ. cond-false (eqb u t) None (p u j) (ne_eqb u t differ))
    (cases_eq u t)))

looked_like : (cs : List ℤ) (p q : Writes) (u i : ℕ) → p u i ≡ q u i → looked cs p u i ≡ looked cs q u i
looked_like cs p q u i e = ap (λ (o : Option ℤ). cond (leb (length cs) i) (Err (of_store NoSuchItem)) (Ok (unwrap_or o (get_or cs i (pos 0))))) e

pub looked-others : (cs : List ℤ) (p : Writes) (t u i : ℕ) → (u ≡ t → ⊥) → looked cs (without p t) u i ≡ looked cs p u i
looked-others cs p t u i ne = looked_like cs (without p t) p u i (cond-false (eqb u t) None (p u i) (ne_eqb u t ne))

pub looked_own : (cs : List ℤ) (p : Writes) (t i : ℕ) → p t i ≡ None → looked cs (without p t) t i ≡ looked cs p t i
looked_own cs p t i none = looked_like cs (without p t) p t i (cond-true (eqb t t) None (p t i) (eq-eqb t t refl) ∙ sym none)

pub took : (r : Result (Unit {0}) Refusal) (f : Option Refusal) → r ≡ answered f → is_ok r ≡ true → is_some f ≡ false
took r None e ok = refl
took r (Some why) e ok = absurd (false≢true (sym (ap is_ok e) ∙ ok))

pub declined : (r : Result (Unit {0}) Refusal) (f : Option Refusal) → r ≡ answered f → is_ok r ≡ false → is_some f ≡ true
declined r None e no' = absurd (false≢true (sym no' ∙ ap is_ok e))
declined r (Some why) e no' = refl

module _ (private : Bool) (room share : ℕ) (cs : List ℤ) (t : ℕ) (writes : List Write) (k : ℕ) (lt : k < length writes) (p : Writes) where
  abbrev w : Write
  w = get_or writes k no_write

  abbrev left : Writes → ℕ
  left q = accepted private room share cs q t (drop (k + 1) writes)

  step : accepted private room share cs p t (drop k writes) ≡ cond (is_some (refused private room share cs p t w.item)) (left p) (suc (left (written p t w.item w.value)))
  step = at_drop_more (accepted private room share cs p t) writes k no_write lt

  pub accepted-more : is_some (refused private room share cs p t w.item) ≡ false → accepted private room share cs p t (drop k writes) ≡ suc (left (written p t w.item w.value))
  accepted-more h = step ∙ cond-false (is_some (refused private room share cs p t w.item)) (left p) (suc (left (written p t w.item w.value))) h

  pub accepted_less : is_some (refused private room share cs p t w.item) ≡ true → accepted private room share cs p t (drop k writes) ≡ left p
  accepted_less h = step ∙ cond-true (is_some (refused private room share cs p t w.item)) (left p) (suc (left (written p t w.item w.value))) h
