-- What the calls of a private store do to the pending writes.
use Rattle.std.proofs.Common.{◌≡◌, ℕ, zero, suc, ◌<◌, ◌≤◌, Bool, true, false, cond, not, ◌&&◌, eqb, List, [], ◌∷◌, ◌++◌, length, get_or, ℤ, Some, None, filter, Option, sym, refl, ap, ◌∙◌, ⊎_elim, arith, find}
use mathlib.Core.Path.{fun_ext}
use Rattle.std.proofs.lemmas.Bool.{and_parts, both_ways, cases_Bool, cond-false, eqb-true, not-true}
use Rattle.std.proofs.lemmas.List.Folds.{find-append}
use Rattle.std.proofs.lemmas.Option.{none-some}
use Rattle.std.specs.Option.{option_map}
use Rattle.store.proofs.Kept.{count-push, nat_eq_flip, or_new, pair_kept}
use Rattle.store.specs.declared.table.Entry.{Entry}
use Rattle.store.specs.Entries.{apart, blank, clear_of, count_of, entry, found, is_on, is_pair, others, owned, revalued, same_pair, value_of}
use Rattle.store.specs.Finding.{find_here, find_past}
use Rattle.store.specs.Meaning.{without, written}

mapped_cond : (f : Entry → ℤ) (b : Bool) (o : Option Entry) → option_map f (cond b None o) ≡ cond b None (option_map f o)
mapped_cond f true o = refl
mapped_cond f false o = refl

pub found_kept : (es : List Entry) (t : ℕ) → found (filter (others t) es) ≡ without (found es) t
found_kept es t = fun_ext (λ u. fun_ext (λ i. ap (option_map value_of) (pair_kept es t u i) ∙ mapped_cond value_of (eqb u t) (find (is_pair u i) es)))

-- the pair of u and j is that of t and i
pub pair_flip : (t i u j : ℕ) → (eqb t u && eqb i j) ≡ (eqb u t && eqb j i)
pair_flip t i u j = ap (λ (b : Bool). b && eqb i j) (nat_eq_flip t u) ∙ ap (λ (b : Bool). eqb u t && b) (nat_eq_flip i j)

pub new_point : (q : Entry → Bool) (e : Entry) (o : Option Entry) → (q e ≡ true → o ≡ None) → option_map value_of (or_new q e o) ≡ cond (q e) (Some e.value) (option_map value_of o)
new_point q e None h = elim (q e) as (λ b. option_map value_of (cond b (Some e) None) ≡ cond b (Some e.value) None) [ true ↦ refl | false ↦ refl ]
new_point q e (Some f) h =
    ⊎_elim
    (λ is. absurd (none-some f (sym (h is))))
    (λ off. sym (cond-false (q e) (Some e.value) (Some f.value) off))
    (cases_Bool (q e))

pub found-pushed : (es : List Entry) (t i : ℕ) (v : ℤ) → find (is_pair t i) es ≡ None → found (es ++ entry t i v ∷ []) ≡ written (found es) t i v
found-pushed es t i v none =
    fun_ext (λ u. fun_ext (λ j.
    let e = entry t i v in
    ap (option_map value_of) (find-append (is_pair u j) es (e ∷ []))
    ∙ new_point (is_pair u j) e (find (is_pair u j) es)
    (λ is.
    let p = and_parts (eqb t u) (eqb i j) is in
    ap (λ (w : ℕ). find (is_pair w j) es) (sym (eqb-true t u p.0)) ∙ ap (λ (k : ℕ). find (is_pair t k) es) (sym (eqb-true i j p.1)) ∙ none)
    ∙ ap (λ (b : Bool). cond b (Some v) (found es u j)) (pair_flip t i u j)))

clear_at : (e : Entry) (es : List Entry) (k : ℕ) → clear_of same_pair e es ≡ true → k < length es → same_pair e (get_or es k blank) ≡ false
clear_at e [] k h lt = absurd (omega arith)
clear_at e (f ∷ es) zero h lt = not-true (same_pair e f) (and_parts (not (same_pair e f)) (clear_of same_pair e es) h).0
clear_at e (f ∷ es) (suc k) h lt = clear_at e es k (and_parts (not (same_pair e f)) (clear_of same_pair e es) h).1 (omega arith)

module _ (t i : ℕ) (v : ℤ) (u j : ℕ) where
  abbrev after : Option ℤ → Option ℤ
  after o = cond (eqb u t && eqb j i) (Some v) o

  here_point : (e : Entry) (es : List Entry) → is_pair t i e ≡ true → found (entry e.owner e.item v ∷ es) u j ≡ after (found (e ∷ es) u j)
  here_point e es is =
      let p = and_parts (owned t e) (is_on i e) is in
      let same : is_pair u j e ≡ (eqb u t && eqb j i) = ap (λ (o : ℕ). eqb o u && eqb e.item j) (eqb-true e.owner t p.0) ∙ ap (λ (k : ℕ). eqb t u && eqb k j) (eqb-true e.item i p.1) ∙ pair_flip t i u j in
      elim (is_pair u j e) as (λ b. option_map value_of (cond b (Some (entry e.owner e.item v)) (find (is_pair u j) es)) ≡ cond b (Some v) (option_map value_of (cond b (Some e) (find (is_pair u j) es)))) [ true ↦ refl | false ↦ refl ]
      ∙ ap (λ (b : Bool). cond b (Some v) (found (e ∷ es) u j)) same

  pub revalued_point : (es : List Entry) (k : ℕ) → k < length es → is_pair t i (get_or es k blank) ≡ true → apart same_pair es ≡ true → found (revalued es k v) u j ≡ after (found es u j)
  revalued_point [] k lt is a = absurd (omega arith)
  revalued_point (e ∷ es) zero lt is a = here_point e es is
  revalued_point (e ∷ es) (suc k) lt is a =
      let p = and_parts (clear_of same_pair e es) (apart same_pair es) a in
      ⊎_elim
      (λ hit.
      let h = and_parts (owned u e) (is_on j e) hit in
      let not-it : (eqb u t && eqb j i) ≡ true → ⊥ = λ x.
      let m = and_parts (eqb u t) (eqb j i) x in
      let o : e.owner ≡ t = eqb-true e.owner u h.0 ∙ eqb-true u t m.0 in
      let n : e.item ≡ i = eqb-true e.item j h.1 ∙ eqb-true j i m.1 in
      both_ways (same_pair e (get_or es k blank)) (clear_at e es k p.0 (omega arith)) (ap (λ (w : ℕ). is_pair w e.item (get_or es k blank)) o ∙ ap (λ (w : ℕ). is_pair t w (get_or es k blank)) n ∙ is) in
      ap (option_map value_of) (find_here (is_pair u j) e (revalued es k v) hit)
      ∙ ⊎_elim (λ x. absurd (not-it x)) (λ off. sym (cond-false (eqb u t && eqb j i) (Some v) (Some e.value) off)) (cases_Bool (eqb u t && eqb j i))
      ∙ sym (ap after (ap (option_map value_of) (find_here (is_pair u j) e es hit))))
      (λ miss.
      ap (option_map value_of) (find_past (is_pair u j) e (revalued es k v) miss)
      ∙ revalued_point es k (omega arith) is p.1
      ∙ sym (ap after (ap (option_map value_of) (find_past (is_pair u j) e es miss))))
      (cases_Bool (is_pair u j e))

pub found-revalued : (es : List Entry) (k t i : ℕ) (v : ℤ) → k < length es → is_pair t i (get_or es k blank) ≡ true → apart same_pair es ≡ true → found (revalued es k v) ≡ written (found es) t i v
found-revalued es k t i v lt is a = fun_ext (λ u. fun_ext (λ j. revalued_point t i v u j es k lt is a))

-- one more of t's, of which there were fewer than 64
pub shares-push : (es : List Entry) (t i : ℕ) (v : ℤ) → count_of t es < 64 → ((u : ℕ) → count_of u es ≤ 64) → (u : ℕ) {n : ℕ} → n ≡ count_of u (es ++ entry t i v ∷ []) → n ≤ 64
shares-push es t i v lt all u e =
    ⊎_elim
    (λ same. omega (arith, e, count-push u es (entry t i v), ap (λ (b : Bool). cond {A = ℕ} b 1 0) same, ap (λ (w : ℕ). count_of w es) (eqb-true t u same)))
    (λ differ. omega (arith, e, count-push u es (entry t i v), ap (λ (b : Bool). cond {A = ℕ} b 1 0) differ, all u))
    (cases_Bool (eqb t u))
