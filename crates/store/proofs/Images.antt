-- What the calls of an in-place store do to its meaning.
use Rattle.std.proofs.Common.{◌≡◌, ℕ, ◌<◌, Bool, true, false, cond, ◌&&◌, eqb, List, [], ◌∷◌, ◌++◌, length, get_or, set, ℤ, pos, Some, None, filter, Option, unwrap_or, sym, refl, ap, ◌∙◌, ⊎_elim, arith, find}
use mathlib.Core.Path.{fun_ext}
use Rattle.std.proofs.lemmas.List.{ext_get_or, get_or-set_other, get_or-set_same, length-set}
use Rattle.std.proofs.lemmas.Bool.{and_right, cases_Bool, cases_eq, cond-false, cond-true, eq-eqb, eqb-false, eqb-true, ne_eqb}
use Rattle.std.proofs.Math.Bool.{and-true}
use Rattle.std.proofs.lemmas.List.Folds.{find-append}
use Rattle.std.specs.Option.{option_map}
use Rattle.store.proofs.Kept.{on_kept, or_new, pair_kept, spare}
use Rattle.store.proofs.Landing.{get_or-items, landed_at, length_items, length-landed}
use Rattle.store.proofs.Workspace.{pair_flip}
use Rattle.store.specs.declared.table.Entry.{Entry}
use Rattle.store.specs.Entries.{apart, bounded, entry, image, is_on, is_pair, landed, others, owned, same_item, size_of, value_of}
use Rattle.store.specs.Finding.{apart-pair, found_nothing, mine, pair_by_item}
use Rattle.store.specs.Laid.{get_or-laid, length-laid}
use Rattle.store.specs.Meaning.{laid, without, written}
use Rattle.store.specs.Slices.{committed_behind, items, pending_in}

-- the committed value behind an entry, and the pending value of an entry, where x stands in the slice
abbrev pub behind : ℤ → Option Entry → ℤ
behind x o = unwrap_or (option_map value_of o) x

abbrev pub told : ℤ → Option Entry → Option ℤ
told x o = option_map (λ _. x) (option_map value_of o)

pub length_behind : (es : List Entry) (vs : List ℤ) → length (committed_behind es vs) ≡ size_of vs
length_behind es vs = length-laid (image es) (items vs) ∙ length_items vs

pub behind_at : (es : List Entry) (vs : List ℤ) (i : ℕ) → i < size_of vs → get_or (committed_behind es vs) i (pos 0) ≡ behind (get_or vs i (pos 0)) (find (is_on i) es)
behind_at es vs i lt = get_or-laid (image es) (items vs) i (omega (arith, length_items vs)) ∙ ap (λ (x : ℤ). behind x (find (is_on i) es)) (get_or-items vs i lt)

same_behind : (es fs : List Entry) (vs ws : List ℤ) → length ws ≡ length vs → ((i : ℕ) → i < size_of vs → behind (get_or ws i (pos 0)) (find (is_on i) fs) ≡ behind (get_or vs i (pos 0)) (find (is_on i) es)) → committed_behind fs ws ≡ committed_behind es vs
same_behind es fs vs ws long each =
    ext_get_or (pos 0) (committed_behind fs ws) (committed_behind es vs)
    (omega (arith, length_behind fs ws, length_behind es vs))
    (λ i lt.
    let lt' : i < size_of ws = omega (arith, length_behind fs ws) in
    let lt'' : i < size_of vs = omega arith in
    behind_at fs ws i lt' ∙ each i lt'' ∙ sym (behind_at es vs i lt''))

-- ---- publish
publish_point : (t : ℕ) (o : Option Entry) (x : ℤ) → behind x (spare t o) ≡ unwrap_or (told x (mine t o)) (behind x o)
publish_point t None x = refl
publish_point t (Some e) x = elim (owned t e) as (λ b. behind x (cond b None (Some e)) ≡ unwrap_or (told x (cond b (Some e) None)) e.value) [ true ↦ refl | false ↦ refl ]

pub publish_behind : (es : List Entry) (vs : List ℤ) (t : ℕ) → apart same_item es ≡ true → committed_behind (filter (others t) es) vs ≡ laid (pending_in es vs t) (committed_behind es vs)
publish_behind es vs t a =
    let fs = filter (others t) es in
    ext_get_or (pos 0) (committed_behind fs vs) (laid (pending_in es vs t) (committed_behind es vs))
    (length_behind fs vs ∙ sym (length-laid (pending_in es vs t) (committed_behind es vs) ∙ length_behind es vs))
    (λ i lt.
    let lt' : i < size_of vs = omega (arith, length_behind fs vs) in
    let x = get_or vs i (pos 0) in
    let o = find (is_on i) es in
    behind_at fs vs i lt'
    ∙ ap (behind x) (on_kept es t i a)
    ∙ publish_point t o x
    ∙ ap (λ (q : Option Entry). unwrap_or (told x q) (behind x o)) (sym (pair_by_item es t i a))
    ∙ ap (λ (y : ℤ). unwrap_or (pending_in es vs t i) y) (sym (behind_at es vs i lt'))
    ∙ sym (get_or-laid (pending_in es vs t) (committed_behind es vs) i (omega (arith, length_behind es vs))))

told-cond : (x : ℤ) (b : Bool) (o : Option Entry) → told x (cond b None o) ≡ cond b None (told x o)
told-cond x true o = refl
told-cond x false o = refl

pub publish-pending : (es : List Entry) (vs : List ℤ) (t : ℕ) → pending_in (filter (others t) es) vs ≡ without (pending_in es vs) t
publish-pending es vs t = fun_ext (λ u. fun_ext (λ i. ap (told (get_or vs i (pos 0))) (pair_kept es t u i) ∙ told-cond (get_or vs i (pos 0)) (eqb u t) (find (is_pair u i) es)))

-- ---- discard
module _ (es : List Entry) (vs : List ℤ) (t : ℕ) (low : bounded (size_of vs) es ≡ true) (a : apart same_item es ≡ true) where
  back_at : (i : ℕ) → get_or (landed t es vs) i (pos 0) ≡ behind (get_or vs i (pos 0)) (mine t (find (is_on i) es))
  back_at i = landed_at (size_of vs) t es vs (omega arith) low (apart-pair es a) i ∙ ap (behind (get_or vs i (pos 0))) (pair_by_item es t i a)

  discard_point : (o : Option Entry) (x : ℤ) → behind (behind x (mine t o)) (spare t o) ≡ behind x o
  discard_point None x = refl
  discard_point (Some e) x = elim (owned t e) as (λ b. behind (behind x (cond b (Some e) None)) (cond b None (Some e)) ≡ e.value) [ true ↦ refl | false ↦ refl ]

  pub discard_behind : committed_behind (filter (others t) es) (landed t es vs) ≡ committed_behind es vs
  discard_behind =
      same_behind es (filter (others t) es) vs (landed t es vs) (length-landed t es vs)
      (λ i lt.
      let o = find (is_on i) es in
      ap (behind (get_or (landed t es vs) i (pos 0))) (on_kept es t i a)
      ∙ ap (λ (y : ℤ). behind y (spare t o)) (back_at i)
      ∙ discard_point o (get_or vs i (pos 0)))

  other_point : (u : ℕ) (o : Option Entry) (x : ℤ) → (u ≡ t → ⊥) → told (behind x (mine t o)) (mine u o) ≡ told x (mine u o)
  other_point u None x ne = refl
  other_point u (Some e) x ne =
      ⊎_elim
      (λ is. ap (λ (b : Bool). told (behind x (cond b (Some e) None)) (cond (owned u e) (Some e) None)) (ne_eqb e.owner t (λ y. ne (sym (eqb-true e.owner u is) ∙ y))))
      (λ off. ap (told (behind x (mine t (Some e)))) (cond-false (owned u e) (Some e) None off) ∙ sym (ap (told x) (cond-false (owned u e) (Some e) None off)))
      (cases_Bool (owned u e))

  pub discard-pending : pending_in (filter (others t) es) (landed t es vs) ≡ without (pending_in es vs) t
  discard-pending =
      fun_ext (λ u. fun_ext (λ i.
      let x = get_or vs i (pos 0) in
      let y = get_or (landed t es vs) i (pos 0) in
      let p = find (is_pair u i) es in
      ap (told y) (pair_kept es t u i)
      ∙ told-cond y (eqb u t) p
      ∙ ⊎_elim
      (λ same. cond-true (eqb u t) None (told y p) same ∙ sym (cond-true (eqb u t) None (told x p) same))
      (λ differ.
      ap (λ (r : Option ℤ). cond (eqb u t) None r)
      (ap (λ (z : ℤ). told z p) (back_at i)
      ∙ ap (told (behind x (mine t (find (is_on i) es)))) (pair_by_item es u i a)
      ∙ other_point u (find (is_on i) es) x (eqb-false u t differ)
      ∙ sym (ap (told x) (pair_by_item es u i a))))
      (cases_Bool (eqb u t))))

-- ---- a put
module _ (es : List Entry) (vs : List ℤ) (t i : ℕ) (v : ℤ) (in' : i < size_of vs) where
  abbrev ws : List ℤ
  ws = set vs i v

  now_there : (j : ℕ) → j ≡ i → get_or ws j (pos 0) ≡ v
  now_there j e = ap (λ (k : ℕ). get_or ws k (pos 0)) e ∙ get_or-set_same vs i v (pos 0) (omega arith)

  still_there : (j : ℕ) → (j ≡ i → ⊥) → get_or ws j (pos 0) ≡ get_or vs j (pos 0)
  still_there j ne = get_or-set_other vs i j v (pos 0) ne

  -- the item has t's before-image
  module _ (e : Entry) (has : find (is_on i) es ≡ Some e) (own : owned t e ≡ true) (a : apart same_item es ≡ true) where
    pub again_behind : committed_behind es ws ≡ committed_behind es vs
    again_behind =
        same_behind es es vs ws (length-set vs i v)
        (λ j lt.
        ⊎_elim
        (λ same.
        let on : find (is_on j) es ≡ Some e = ap (λ (k : ℕ). find (is_on k) es) same ∙ has in
        ap (behind (get_or ws j (pos 0))) on ∙ sym (ap (behind (get_or vs j (pos 0))) on))
        (λ ne. ap (λ (x : ℤ). behind x (find (is_on j) es)) (still_there j ne))
        (cases_eq j i))

    own_point : (u : ℕ) (x : ℤ) → told v (mine u (Some e)) ≡ cond (eqb u t) (Some v) (told x (mine u (Some e)))
    own_point u x =
        ⊎_elim
        (λ same. ap (told v) (cond-true (owned u e) (Some e) None (eq-eqb e.owner u (eqb-true e.owner t own ∙ sym (eqb-true u t same)))) ∙ sym (cond-true (eqb u t) (Some v) (told x (mine u (Some e))) same))
        (λ differ.
        let off : owned u e ≡ false = ne_eqb e.owner u (λ y. eqb-false u t differ (sym y ∙ eqb-true e.owner t own)) in
        ap (told v) (cond-false (owned u e) (Some e) None off) ∙ sym (ap (told x) (cond-false (owned u e) (Some e) None off)) ∙ sym (cond-false (eqb u t) (Some v) (told x (mine u (Some e))) differ))
        (cases_Bool (eqb u t))

    pub again_pending : pending_in es ws ≡ written (pending_in es vs) t i v
    again_pending =
        fun_ext (λ u. fun_ext (λ j.
        let x = get_or vs j (pos 0) in
        let p = find (is_pair u j) es in
        ⊎_elim
        (λ same.
        let on : p ≡ mine u (Some e) = pair_by_item es u j a ∙ ap (mine u) (ap (λ (k : ℕ). find (is_on k) es) same ∙ has) in
        let both : (eqb u t && eqb j i) ≡ eqb u t = ap (λ (b : Bool). eqb u t && b) (eq-eqb j i same) ∙ and-true (eqb u t) in
        ap (λ (y : ℤ). told y p) (now_there j same)
        ∙ ap (told v) on
        ∙ own_point u x
        ∙ sym (ap (λ (q : Option Entry). cond (eqb u t) (Some v) (told x q)) on)
        ∙ sym (ap (λ (b : Bool). cond b (Some v) (told x p)) both))
        (λ ne. ap (λ (y : ℤ). told y p) (still_there j ne) ∙ sym (cond-false (eqb u t && eqb j i) (Some v) (told x p) (and_right (eqb u t) (eqb j i) (ne_eqb j i ne))))
        (cases_eq j i)))

  -- the item has none
  module _ (none : find (is_on i) es ≡ None) where
    abbrev new : Entry
    new = entry t i (get_or vs i (pos 0))

    abbrev fs : List Entry
    fs = es ++ new ∷ []

    or_new_off : (q : Entry → Bool) (o : Option Entry) → q new ≡ false → or_new q new o ≡ o
    or_new_off q None off = cond-false (q new) (Some new) None off
    or_new_off q (Some f) off = refl

    pub first_behind : committed_behind fs ws ≡ committed_behind es vs
    first_behind =
        same_behind es fs vs ws (length-set vs i v)
        (λ j lt.
        let o = find (is_on j) es in
        ap (behind (get_or ws j (pos 0))) (find-append (is_on j) es (new ∷ []))
        ∙ ⊎_elim
        (λ same.
        let none' : o ≡ None = ap (λ (k : ℕ). find (is_on k) es) same ∙ none in
        ap (λ (q : Option Entry). behind (get_or ws j (pos 0)) (or_new (is_on j) new q)) none'
        ∙ ap (behind (get_or ws j (pos 0))) (cond-true (is_on j new) (Some new) None (eq-eqb i j (sym same)))
        ∙ ap (λ (k : ℕ). get_or vs k (pos 0)) (sym same)
        ∙ sym (ap (behind (get_or vs j (pos 0))) none'))
        (λ ne.
        ap (behind (get_or ws j (pos 0))) (or_new_off (is_on j) o (ne_eqb i j (λ y. ne (sym y))))
        ∙ ap (λ (x : ℤ). behind x o) (still_there j ne))
        (cases_eq j i))

    new_told : (b : Bool) → told v (cond b (Some new) None) ≡ cond b (Some v) None
    new_told true = refl
    new_told false = refl

    pub first-pending : pending_in fs ws ≡ written (pending_in es vs) t i v
    first-pending =
        fun_ext (λ u. fun_ext (λ j.
        let x = get_or vs j (pos 0) in
        let p = find (is_pair u j) es in
        ap (told (get_or ws j (pos 0))) (find-append (is_pair u j) es (new ∷ []))
        ∙ ⊎_elim
        (λ same.
        let none' : p ≡ None = found_nothing es u j (ap (λ (k : ℕ). find (is_on k) es) same ∙ none) in
        ap (λ (y : ℤ). told y (or_new (is_pair u j) new p)) (now_there j same)
        ∙ ap (λ (q : Option Entry). told v (or_new (is_pair u j) new q)) none'
        ∙ new_told (is_pair u j new)
        ∙ ap (λ (b : Bool). cond b (Some v) None) (pair_flip t i u j)
        ∙ sym (ap (λ (q : Option Entry). cond (eqb u t && eqb j i) (Some v) (told x q)) none'))
        (λ ne.
        let off : (eqb j i) ≡ false = ne_eqb j i ne in
        ap (told (get_or ws j (pos 0))) (or_new_off (is_pair u j) p (and_right (eqb t u) (eqb i j) (ne_eqb i j (λ y. ne (sym y)))))
        ∙ ap (λ (y : ℤ). told y p) (still_there j ne)
        ∙ sym (cond-false (eqb u t && eqb j i) (Some v) (told x p) (and_right (eqb u t) (eqb j i) off)))
        (cases_eq j i)))
