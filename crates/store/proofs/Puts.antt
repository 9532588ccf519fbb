-- What look and put answer in an in-place store, by the entry on the item.
use Rattle.std.proofs.Common.{◌≡◌, ℕ, ◌<◌, ◌≤◌, Bool, true, false, cond, eqb, leb, List, length, get_or, ℤ, pos, is_some, Some, None, Ok, Err, Option, unwrap_or, sym, refl, ap, ◌∙◌, arith, find}
use Rattle.records.specs.declared.refusal.Reason.TheVariants.{ItemTaken, NoRoom, NoSuchItem}
use Rattle.std.proofs.lemmas.Bool.{cond-false, cond-true, eq-eqb, lt-leb, ne_eqb, or_from, or_left}
use Rattle.store.proofs.Images.{behind, behind_at, length_behind, told}
use Rattle.store.proofs.Refusals.{has_one, has_room, is_taken, item_taken, no_room, not_taken}
use Rattle.store.specs.declared.table.Entry.{Entry}
use Rattle.store.specs.Entries.{apart, bounded, is_on, is_pair, owned, same_item, size_of}
use Rattle.store.specs.Finding.{find-bounded, mine, pair_by_item}
use Rattle.store.specs.Meaning.{held_count, looked, of_store, refused, row_count}
use Rattle.store.specs.Slices.{committed_behind, pending_in}
use Rattle.store.specs.Soundness.{count_of_le, held_in, row_in}

module _ (es : List Entry) (vs : List ℤ) (t i : ℕ) (few : length es ≤ 512) (low : bounded (size_of vs) es ≡ true) (a : apart same_item es ≡ true) (in' : i < size_of vs) where
  abbrev cs : List ℤ
  cs = committed_behind es vs

  abbrev ps : ℕ → ℕ → Option ℤ
  ps = pending_in es vs

  abbrev x : ℤ
  x = get_or vs i (pos 0)

  there : leb (length cs) i ≡ false
  there = lt-leb (length cs) i (omega (arith, length_behind es vs))

  row : (u : ℕ) → ps u i ≡ told x (mine u (find (is_on i) es))
  row u = ap (told x) (pair_by_item es u i a)

  pub looked-at : looked cs ps t i ≡ Ok (unwrap_or (told x (mine t (find (is_on i) es))) (behind x (find (is_on i) es)))
  looked-at =
      cond-false (leb (length cs) i) (Err (of_store NoSuchItem)) (Ok (unwrap_or (ps t i) (get_or cs i (pos 0)))) there
      ∙ ap (λ (y : ℤ). Ok (unwrap_or (ps t i) y)) (behind_at es vs i in')
      ∙ ap (λ (o : Option ℤ). Ok (unwrap_or o (behind x (find (is_on i) es)))) (row t)

  module _ (e : Entry) (has : find (is_on i) es ≡ Some e) where
    row_is : (u : ℕ) → ps u i ≡ told x (cond (owned u e) (Some e) None)
    row_is u = row u ∙ ap (λ (o : Option Entry). told x (mine u o)) has

    looked_is : looked cs ps t i ≡ Ok (unwrap_or (told x (cond (owned t e) (Some e) None)) e.value)
    looked_is = looked-at ∙ ap (λ (o : Option Entry). Ok (unwrap_or (told x (mine t o)) (behind x o))) has

    pub look_other : (e.owner ≡ t → ⊥) → looked cs ps t i ≡ Ok e.value
    look_other ne = looked_is ∙ ap (λ (b : Bool). Ok (unwrap_or (told x (cond b (Some e) None)) e.value)) (ne_eqb e.owner t ne)

    pub look_own : e.owner ≡ t → looked cs ps t i ≡ Ok x
    look_own own = looked_is ∙ ap (λ (b : Bool). Ok (unwrap_or (told x (cond b (Some e) None)) e.value)) (eq-eqb e.owner t own)

    owner_has : find (is_pair e.owner i) es ≡ Some e
    owner_has = pair_by_item es e.owner i a ∙ ap (mine e.owner) has ∙ cond-true (owned e.owner e) (Some e) None (eq-eqb e.owner e.owner refl)

    pub put-taken : (e.owner ≡ t → ⊥) → refused false 512 512 cs ps t i ≡ Some (of_store ItemTaken)
    put-taken ne = item_taken false 512 512 cs ps t i there (is_taken ps t i e.owner ne (ap (λ (o : Option Entry). is_some (told x o)) owner_has) (find-bounded (size_of vs) es e.owner i low (ap is_some owner_has)).0)

    pub put_again : e.owner ≡ t → refused false 512 512 cs ps t i ≡ None
    put_again own =
        has_one false 512 512 cs ps t i there
        (not_taken ps t i (λ u ne. ap is_some (row_is u) ∙ ap (λ (b : Bool). is_some (told x (cond b (Some e) None))) (ne_eqb e.owner u (λ y. ne (sym y ∙ own)))))
        (ap is_some (row_is t) ∙ ap (λ (b : Bool). is_some (told x (cond b (Some e) None))) (eq-eqb e.owner t own))

  module _ (none : find (is_on i) es ≡ None) where
    row_none : (u : ℕ) → ps u i ≡ None
    row_none u = row u ∙ ap (λ (o : Option Entry). told x (mine u o)) none

    pub look_none : looked cs ps t i ≡ Ok x
    look_none = looked-at ∙ ap (λ (o : Option Entry). Ok (unwrap_or (told x (mine t o)) (behind x o))) none

    pub put_full : length es ≡ 512 → refused false 512 512 cs ps t i ≡ Some (of_store NoRoom)
    put_full full =
        no_room false 512 512 cs ps t i there (not_taken ps t i (λ u _. ap is_some (row_none u))) (ap is_some (row_none t))
        (or_left (eqb (held_count ps (length cs)) 512) (leb 512 (row_count ps t (length cs))) (eq-eqb (held_count ps (length cs)) 512 (held_in es vs few low a ∙ full)))

    pub put-new : length es < 512 → refused false 512 512 cs ps t i ≡ None
    put-new lt =
        has_room false 512 512 cs ps t i there (not_taken ps t i (λ u _. ap is_some (row_none u))) (ap is_some (row_none t))
        (or_from (eqb (held_count ps (length cs)) 512) (leb 512 (row_count ps t (length cs)))
        (ne_eqb (held_count ps (length cs)) 512 (λ y. omega (arith, held_in es vs few low a)))
        (lt-leb 512 (row_count ps t (length cs)) (omega (arith, row_in es vs few low a t, count_of_le t es))))
