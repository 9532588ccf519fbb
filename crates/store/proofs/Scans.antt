-- Scans over the entries, and a write of one value.
use Rattle.std.proofs.Common.{None, sym, ⊎_elim, ltb, position, ℕ, zero, suc, ◌+◌, ◌<◌, Bool, true, cond, List, [], ◌∷◌, length, get_or, drop, set, length-set, ◌≡◌, ℤ, Some, refl, ap, ◌∙◌, arith, find}
use Rattle.std.proofs.lemmas.List.{at_drop_more}
use Rattle.std.proofs.lemmas.List.Folds.{find_at}
use Rattle.std.proofs.lemmas.List.Quantifiers.{position-Some}
use Rattle.std.proofs.lemmas.Option.{cond_some, slice_get-get_or, slice_get_past}
use Rattle.std.proofs.lemmas.Bool.{and_parts, cases_Bool, cond-true, ltb-false, ltb-true}
use Rattle.std.specs.List.{position_or_len, slice_get}
use Rattle.arrayvec.specs.ArrayVec.{ArrayVec, with_items}
use Rattle.arrayvec.proofs.ArrayVecLemmas.{items-with_items}
use Rattle.store.specs.declared.table.Entry.{Entry}
use Rattle.store.specs.Entries.{blank, bounded, entry, landed, owned, revalued}

-- what `find` gives, by the place that `position` gives
module _ (q : Entry → Bool) (es : List Entry) where
  pub find-Some : (k : ℕ) → position q es ≡ Some k → find q es ≡ Some (get_or es k blank)
  find-Some k h =
      let p = cond_some (ltb (position_or_len q es) (length es)) (position_or_len q es) k h in
      find_at q es ∙ ap (slice_get es) p.1 ∙ slice_get-get_or es k blank (position-Some q es k blank h).0

  pub find-None : position q es ≡ None → find q es ≡ None
  find-None h =
      ⊎_elim
      (λ lt. let got : Some (position_or_len q es) ≡ None = sym (cond-true _ (Some (position_or_len q es)) None lt) ∙ h in absurd cc)
      (λ ge. find_at q es ∙ slice_get_past es (position_or_len q es) (ltb-false _ _ ge))
      (cases_Bool (ltb (position_or_len q es) (length es)))

module _ (t : ℕ) (list : List Entry) (k : ℕ) (lt : k < length list) (vs : List ℤ) where
  pub landed-more : landed t (drop k list) vs ≡ landed t (drop (k + 1) list) (cond (owned t (get_or list k blank)) (set vs (get_or list k blank).item (get_or list k blank).value) vs)
  landed-more = at_drop_more (λ l. landed t l vs) list k blank lt

pub bounded_at : (n : ℕ) (es : List Entry) (k : ℕ) → bounded n es ≡ true → k < length es → ((get_or es k blank).owner < 65536) × ((get_or es k blank).item < n)
bounded_at n [] k h lt = absurd (omega arith)
bounded_at n (e ∷ es) zero h lt = let p = and_parts _ _ (and_parts _ _ h).0 in (ltb-true _ _ p.0, ltb-true _ _ p.1)
bounded_at n (e ∷ es) (suc k) h lt = bounded_at n es k (and_parts _ _ h).1 (omega arith)

-- a write of the value of one entry
pub set_value : (es : List Entry) (k : ℕ) (v : ℤ) → set es k (entry (get_or es k blank).owner (get_or es k blank).item v) ≡ revalued es k v
set_value [] k v = refl
set_value (e ∷ es) zero v = refl
set_value (e ∷ es) (suc k) v = ap (λ l. e ∷ l) (set_value es k v)

-- the same, through a slice of the vector
pub items-set_value : (v : ArrayVec Entry) (es : List Entry) (k : ℕ) (x : ℤ) → es ≡ v.items → (with_items v (set es k (entry (get_or es k blank).owner (get_or es k blank).item x))).items ≡ revalued v.items k x
items-set_value v es k x same =
    items-with_items v _ (length-set es k _ ∙ ap length same) ∙ set_value es k x ∙ ap (λ (l : List Entry). revalued l k x) same
