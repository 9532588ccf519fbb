-- What the slice of an in-place store holds, said by the store's meaning.
use Rattle.std.proofs.Common.{◌≡◌, ℕ, zero, suc, ◌<◌, true, false, cond, List, ◌++◌, get_or, ℤ, pos, is_some, Some, None, Option, unwrap_or, sym, refl, ap, ◌∙◌, ⊎_elim, arith, find}
use mathlib.Core.Path.{fun_ext}
use Rattle.std.proofs.lemmas.List.{ext_get_or, take-append-drop}
use Rattle.std.proofs.lemmas.Bool.{cases_eq, cond-true, eq-eqb}
use Rattle.store.proofs.Images.{behind, behind_at, length_behind, told}
use Rattle.store.proofs.Landing.{get_or-items, length_items}
use Rattle.store.proofs.Openings.{laid-nothing}
use Rattle.store.specs.declared.table.Entry.{Entry}
use Rattle.store.specs.Entries.{apart, bounded, is_on, is_pair, owned, same_item, size_of}
use Rattle.store.specs.Finding.{find-bounded, mine, pair_by_item}
use Rattle.store.specs.Laid.{get_or-laid, length-laid}
use Rattle.store.specs.Meaning.{laid, nothing}
use Rattle.store.specs.Slices.{anyone, committed_behind, either, in_place_slice, items, pending_in, rest, some_below}

-- all that f has is v
module _ (f : ℕ → Option ℤ) (v : ℤ) (only : (k : ℕ) → either (f k) (Some v) ≡ Some v) where
  pub some_none : ((k : ℕ) → f k ≡ None) → (n : ℕ) → some_below f n ≡ None
  unfolding some_below
  some_none h zero = refl
  some_none h (suc n) = ap (λ (o : Option ℤ). either o (some_below f n)) (h n) ∙ some_none h n

  pub some_there : (u : ℕ) → f u ≡ Some v → (n : ℕ) → u < n → some_below f n ≡ Some v
  unfolding some_below
  some_there u h zero lt = absurd (omega arith)
  some_there u h (suc n) lt =
      ⊎_elim
      (λ e. ap (λ (o : Option ℤ). either o (some_below f n)) (ap f e ∙ h))
      (λ ne. ap (either (f n)) (some_there u h n (omega arith)) ∙ only n)
      (cases_eq n u)

module _ (es : List Entry) (vs : List ℤ) (low : bounded (size_of vs) es ≡ true) (a : apart same_item es ≡ true) where
  row : (i u : ℕ) → pending_in es vs u i ≡ told (get_or vs i (pos 0)) (mine u (find (is_on i) es))
  row i u = ap (told (get_or vs i (pos 0))) (pair_by_item es u i a)

  only_point : (x : ℤ) (u : ℕ) (o : Option Entry) → either (told x (mine u o)) (Some x) ≡ Some x
  only_point x u None = refl
  only_point x u (Some e) = elim (owned u e) as (λ b. either (told x (cond b (Some e) None)) (Some x) ≡ Some x) [ true ↦ refl | false ↦ refl ]

  over : (i : ℕ) (o : Option Entry) → find (is_on i) es ≡ o → unwrap_or (anyone (pending_in es vs) i) (behind (get_or vs i (pos 0)) o) ≡ get_or vs i (pos 0)
  over i None h =
      let x = get_or vs i (pos 0) in
      ap (λ (q : Option ℤ). unwrap_or q x) (some_none (λ u. pending_in es vs u i) x (λ u. ap (λ (q : Option ℤ). either q (Some x)) (row i u) ∙ only_point x u (find (is_on i) es)) (λ u. row i u ∙ ap (λ (o : Option Entry). told x (mine u o)) h) 65536)
  over i (Some e) h =
      let x = get_or vs i (pos 0) in
      let mine' : mine e.owner (Some e) ≡ Some e = cond-true (owned e.owner e) (Some e) None (eq-eqb e.owner e.owner refl) in
      let has : find (is_pair e.owner i) es ≡ Some e = pair_by_item es e.owner i a ∙ ap (mine e.owner) h ∙ mine' in
      let lt : e.owner < 65536 = (find-bounded (size_of vs) es e.owner i low (ap is_some has)).0 in
      ap (λ (q : Option ℤ). unwrap_or q (behind x (Some e))) (some_there (λ u. pending_in es vs u i) x (λ u. ap (λ (q : Option ℤ). either q (Some x)) (row i u) ∙ only_point x u (find (is_on i) es)) e.owner (ap (told x) has) 65536 lt)

  overlaid : laid (anyone (pending_in es vs)) (committed_behind es vs) ≡ items vs
  overlaid =
      let p = anyone (pending_in es vs) in
      let cs = committed_behind es vs in
      let long = length-laid p cs ∙ length_behind es vs in
      ext_get_or (pos 0) (laid p cs) (items vs) (long ∙ sym (length_items vs))
      (λ i lt.
      let lt' : i < size_of vs = omega (arith, long) in
      get_or-laid p cs i (omega (arith, length_behind es vs))
      ∙ ap (λ (y : ℤ). unwrap_or (p i) y) (behind_at es vs i lt')
      ∙ over i (find (is_on i) es) refl
      ∙ sym (get_or-items vs i lt'))

  pub slice_holds : vs ≡ in_place_slice (committed_behind es vs) (pending_in es vs) (rest vs)
  slice_holds = sym (ap (λ (l : List ℤ). l ++ rest vs) overlaid ∙ take-append-drop 1024 vs)

-- with nothing pending the slice is the committed values and the rest
pub slice_still : (vs : List ℤ) → in_place_slice (items vs) nothing (rest vs) ≡ vs
slice_still vs =
    let none : anyone nothing ≡ (λ _. None) = fun_ext (λ i. some_none (λ t. nothing t i) (pos 0) (λ _. refl) (λ _. refl) 65536) in
    ap (λ (row : ℕ → Option ℤ). laid row (items vs) ++ rest vs) none ∙ ap (λ (l : List ℤ). l ++ rest vs) (laid-nothing (items vs)) ∙ take-append-drop 1024 vs
