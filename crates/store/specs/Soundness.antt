-- Both stores keep what every store owes.
use Rattle.std.specs.Prelude.{◌≡◌, ℕ, ◌≤◌, Bool, true, false, cond, List, length, ℤ, is_some, Some, None, Option, refl, find}
use Rattle.std.proofs.Common.{length-take, ⊎_elim, ◌∙◌, ap, sym, arith}
use Rattle.std.proofs.Math.Path.{fun_ext}
use Rattle.std.proofs.lemmas.List.Filters.{length-filter_both}
use Rattle.std.proofs.lemmas.Bool.{cases_Bool, cond-false, eqb-true, false≢true}
use Rattle.std.specs.Option.{option_map}
use Rattle.store.specs.declared.table.Entry.{Entry}
use Rattle.store.specs.Entries.{apart, bounded, count_of, found, is_on, is_pair, others, owned, same_item, same_pair, size_of, value_of}
use Rattle.store.specs.Finding.{apart-pair, find-bounded, held_found, mine, pair_by_item, row_found}
use Rattle.store.specs.Laid.{length-laid}
use Rattle.store.specs.Meaning.{Sound, held_count, row_count, sum_below}
use Rattle.store.specs.Slices.{committed_behind, items, pending_in}

pub is_some-mapped : {X Y : Type 0} (f : X → Y) (o : Option X) → is_some (option_map f o) ≡ is_some o
is_some-mapped f None = refl
is_some-mapped f (Some x) = refl

mine_owner : (t : ℕ) (o : Option Entry) → is_some (mine t o) ≡ true → (u : ℕ) → is_some (mine u o) ≡ true → t ≡ u
mine_owner t None h u k = absurd (false≢true h)
mine_owner t (Some e) h u k =
    let of' : (v : ℕ) → is_some (mine v (Some e)) ≡ true → e.owner ≡ v = λ v x. ⊎_elim (λ is. eqb-true e.owner v is) (λ off. absurd (false≢true (sym (ap is_some (cond-false (owned v e) (Some e) None off)) ∙ x))) (cases_Bool (owned v e)) in
    sym (of' t h) ∙ of' u k

pub count_of_le : (t : ℕ) (es : List Entry) → count_of t es ≤ length es
count_of_le t es = omega (arith, length-filter_both (owned t) (others t) (λ _. refl) es)

module _ (es : List Entry) (vs : List ℤ) (few : length es ≤ 512) (low : bounded (size_of vs) es ≡ true) where
  pub length_items : length (items vs) ≡ size_of vs
  length_items = length-take 1024 vs

  pub held_beside : apart same_pair es ≡ true → held_count (found es) (length (items vs)) ≡ length es
  held_beside ap' = rw length_items (held_found (size_of vs) es ap' low)

  pub row_beside : apart same_pair es ≡ true → (t : ℕ) → row_count (found es) t (length (items vs)) ≡ count_of t es
  row_beside ap' t = rw length_items (row_found (size_of vs) es t ap' low)

  pub private_sound : apart same_pair es ≡ true → ((t : ℕ) → count_of t es ≤ 64) → Sound true 512 64 (items vs) (found es)
  private_sound ap' sh =
      record {
        narrow = omega (arith, length_items);
        within = λ t i h. rw length_items (find-bounded (size_of vs) es t i low (sym (is_some-mapped value_of (find (is_pair t i) es)) ∙ h));
        single = λ no'. absurd (false≢true (sym no'));
        fits = omega (arith, held_beside ap');
        shares = λ t. omega (arith, row_beside ap' t, sh t);
      }

  pub length_behind : length (committed_behind es vs) ≡ size_of vs
  length_behind = length-laid _ (items vs) ∙ length_items

  has_same : (t i : ℕ) → is_some (pending_in es vs t i) ≡ is_some (found es t i)
  has_same t i = is_some-mapped _ (found es t i)

  pub held_in : apart same_item es ≡ true → held_count (pending_in es vs) (length (committed_behind es vs)) ≡ length es
  held_in ap' =
      rw length_behind
      (ap (λ (h : ℕ → ℕ → Bool). sum_below (λ t. sum_below (λ i. cond (h t i) 1 0) (size_of vs)) 65536) (fun_ext (λ t. fun_ext (λ i. has_same t i)))
      ∙ held_found (size_of vs) es (apart-pair es ap') low)

  pub row_in : apart same_item es ≡ true → (t : ℕ) → row_count (pending_in es vs) t (length (committed_behind es vs)) ≡ count_of t es
  row_in ap' t =
      rw length_behind
      (ap (λ (h : ℕ → Bool). sum_below (λ i. cond (h i) 1 0) (size_of vs)) (fun_ext (λ i. has_same t i))
      ∙ row_found (size_of vs) es t (apart-pair es ap') low)

  pub in_place_sound : apart same_item es ≡ true → Sound false 512 512 (committed_behind es vs) (pending_in es vs)
  in_place_sound ap' =
      let has : (t i : ℕ) → is_some (pending_in es vs t i) ≡ true → is_some (find (is_pair t i) es) ≡ true = λ t i h. sym (is_some-mapped value_of (find (is_pair t i) es)) ∙ sym (has_same t i) ∙ h in
      let own : (t i : ℕ) → is_some (pending_in es vs t i) ≡ true → is_some (mine t (find (is_on i) es)) ≡ true = λ t i h. sym (ap is_some (pair_by_item es t i ap')) ∙ has t i h in
      record {
        narrow = omega (arith, length_behind);
        within = λ t i h. rw length_behind (find-bounded (size_of vs) es t i low (has t i h));
        single = λ _ t u i h k. mine_owner t (find (is_on i) es) (own t i h) u (own u i k);
        fits = omega (arith, held_in ap');
        shares = λ t. omega (arith, row_in ap' t, count_of_le t es);
      }
