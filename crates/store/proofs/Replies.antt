-- What look and put answer in a private store, by the pair's entry.
use Rattle.std.proofs.Common.{◌≡◌, ℕ, ◌<◌, ◌≤◌, true, false, eqb, leb, List, length, get_or, ℤ, pos, is_some, Some, None, Ok, Err, Option, unwrap_or, refl, ap, ◌∙◌, arith}
use Rattle.records.specs.declared.refusal.Reason.TheVariants.{NoRoom, NoSuchItem}
use Rattle.std.proofs.lemmas.Bool.{cond-false, eq-eqb, le-leb, lt-leb, ne_eqb, or_from, or_left, or_right}
use Rattle.store.proofs.Landing.{get_or-items, length_items}
use Rattle.store.proofs.Refusals.{has_one, has_room, no_room}
use Rattle.store.specs.declared.table.Entry.{Entry}
use Rattle.store.specs.Entries.{apart, bounded, count_of, found, same_pair, size_of}
use Rattle.store.specs.Meaning.{held_count, looked, of_store, refused, row_count}
use Rattle.store.specs.Slices.{items}
use Rattle.store.specs.Soundness.{held_beside, row_beside}

module _ (es : List Entry) (vs : List ℤ) (t i : ℕ) (few : length es ≤ 512) (low : bounded (size_of vs) es ≡ true) (a : apart same_pair es ≡ true) (in' : i < size_of vs) where
  abbrev cs : List ℤ
  cs = items vs

  abbrev ps : ℕ → ℕ → Option ℤ
  ps = found es

  there : leb (length cs) i ≡ false
  there = lt-leb (length cs) i (omega (arith, length_items vs))

  pub looked_is : looked cs ps t i ≡ Ok (unwrap_or (ps t i) (get_or vs i (pos 0)))
  looked_is =
      cond-false (leb (length cs) i) (Err (of_store NoSuchItem)) (Ok (unwrap_or (ps t i) (get_or cs i (pos 0)))) there
      ∙ ap (λ (y : ℤ). Ok (unwrap_or (ps t i) y)) (get_or-items vs i in')

  pub put_again : (v : ℤ) → ps t i ≡ Some v → refused true 512 64 cs ps t i ≡ None
  put_again v has = has_one true 512 64 cs ps t i there refl (ap is_some has)

  module _ (none : ps t i ≡ None) where
    pub put_full : length es ≡ 512 → refused true 512 64 cs ps t i ≡ Some (of_store NoRoom)
    put_full full = no_room true 512 64 cs ps t i there refl (ap is_some none) (or_left (eqb (held_count ps (length cs)) 512) (leb 64 (row_count ps t (length cs))) (eq-eqb (held_count ps (length cs)) 512 (held_beside es vs few low a ∙ full)))

    pub put_over : 64 ≤ count_of t es → refused true 512 64 cs ps t i ≡ Some (of_store NoRoom)
    put_over over = no_room true 512 64 cs ps t i there refl (ap is_some none) (or_right (eqb (held_count ps (length cs)) 512) (leb 64 (row_count ps t (length cs))) (le-leb 64 (row_count ps t (length cs)) (omega (arith, row_beside es vs few low a t))))

    pub put-new : length es < 512 → count_of t es < 64 → refused true 512 64 cs ps t i ≡ None
    put-new room share =
        has_room true 512 64 cs ps t i there refl (ap is_some none)
        (or_from (eqb (held_count ps (length cs)) 512) (leb 64 (row_count ps t (length cs)))
        (ne_eqb (held_count ps (length cs)) 512 (λ y. omega (arith, held_beside es vs few low a)))
        (lt-leb 64 (row_count ps t (length cs)) (omega (arith, row_beside es vs few low a t))))
