-- What a list of entries says of each pair and of each item.
use Rattle.std.specs.Prelude.{◌≡◌, ℕ, ◌+◌, ◌<◌, Bool, true, false, cond, not, ◌&&◌, List, [], ◌∷◌, length, is_some, Some, None, filter, Option, ◌≢◌, nat_lt, refl, find}
use Rattle.std.proofs.Common.{⊎_elim, ◌∙◌, ap, subst, sym, arith}
use Rattle.std.proofs.Math.Path.{fun_ext}
use Rattle.std.proofs.lemmas.Bool.{and_from, and_left, and_parts, and_right, cases_Bool, cond-false, cond-true, eq-eqb, eqb-false, eqb-true, false≢true, ltb-true, ne_eqb, not-true}
use Rattle.std.proofs.lemmas.Option.{none-some}
use Rattle.std.proofs.Math.Bool.{and-true}
use Rattle.std.specs.Option.{option_map}
use Rattle.store.specs.declared.table.Entry.{Entry}
use Rattle.store.specs.Entries.{apart, bounded, clear_of, count_of, found, is_on, is_pair, owned, same_item, same_pair, value_of}
use Rattle.store.specs.Meaning.{held_count, row_count, sum_below}
use Rattle.store.specs.Sums.{sum_more, sum-zero}

module _ (q : Entry → Bool) (e : Entry) (es : List Entry) where
  pub find_here : q e ≡ true → find q (e ∷ es) ≡ Some e
  find_here h = cond-true (q e) (Some e) (find q es) h

  pub find_past : q e ≡ false → find q (e ∷ es) ≡ find q es
  find_past h = cond-false (q e) (Some e) (find q es) h

-- nothing clashes with e, so nothing is found that would
pub find-clear : (clash : Entry → Entry → Bool) (e : Entry) (es : List Entry) → clear_of clash e es ≡ true → find (clash e) es ≡ None
find-clear clash e [] h = refl
find-clear clash e (f ∷ es) h =
    let p = and_parts (not (clash e f)) (clear_of clash e es) h in
    find_past (clash e) f es (not-true (clash e f) p.0) ∙ find-clear clash e es p.1

pub found_nothing : (es : List Entry) (t i : ℕ) → find (is_on i) es ≡ None → find (is_pair t i) es ≡ None
found_nothing [] t i h = refl
found_nothing (e ∷ es) t i h =
    ⊎_elim
    (λ on. absurd (none-some e (sym h ∙ find_here (is_on i) e es on)))
    (λ off. find_past (is_pair t i) e es (and_right (owned t e) (is_on i e) off) ∙ found_nothing es t i (sym (find_past (is_on i) e es off) ∙ h))
    (cases_Bool (is_on i e))

-- the entry, if it is t's
abbrev pub mine : ℕ → Option Entry → Option Entry
mine t None = None
mine t (Some e) = cond (owned t e) (Some e) None

-- where an item has one entry at most, that entry decides
pub pair_by_item : (es : List Entry) (t i : ℕ) → apart same_item es ≡ true → find (is_pair t i) es ≡ mine t (find (is_on i) es)
pair_by_item [] t i h = refl
pair_by_item (e ∷ es) t i h =
    let p = and_parts (clear_of same_item e es) (apart same_item es) h in
    ⊎_elim
    (λ on.
    let none : find (is_on i) es ≡ None = ap (λ (j : ℕ). find (is_on j) es) (sym (eqb-true e.item i on)) ∙ find-clear same_item e es p.0 in
    ap (λ (r : Option Entry). cond (owned t e && is_on i e) (Some e) r) (found_nothing es t i none)
    ∙ ap (λ (b : Bool). cond (owned t e && b) (Some e) None) on
    ∙ ap (λ (b : Bool). cond b (Some e) None) (and-true (owned t e))
    ∙ sym (ap (mine t) (find_here (is_on i) e es on)))
    (λ off. find_past (is_pair t i) e es (and_right (owned t e) (is_on i e) off) ∙ pair_by_item es t i p.1 ∙ sym (ap (mine t) (find_past (is_on i) e es off)))
    (cases_Bool (is_on i e))

-- one entry on an item at most is one entry for a pair at most
clear-pair : (e : Entry) (es : List Entry) → clear_of same_item e es ≡ true → clear_of same_pair e es ≡ true
clear-pair e [] h = refl
clear-pair e (f ∷ es) h =
    let p = and_parts (not (same_item e f)) (clear_of same_item e es) h in
    and_from (not (same_pair e f)) (clear_of same_pair e es)
    (ap not (and_right (owned e.owner f) (is_on e.item f) (not-true (same_item e f) p.0)))
    (clear-pair e es p.1)

pub apart-pair : (es : List Entry) → apart same_item es ≡ true → apart same_pair es ≡ true
apart-pair [] h = refl
apart-pair (e ∷ es) h =
    let p = and_parts (clear_of same_item e es) (apart same_item es) h in
    and_from (clear_of same_pair e es) (apart same_pair es) (clear-pair e es p.0) (apart-pair es p.1)

pub bounded_parts : (n : ℕ) (e : Entry) (es : List Entry) → bounded n (e ∷ es) ≡ true → (e.owner < 65536) × (e.item < n) × (bounded n es ≡ true)
bounded_parts n e es b =
    let p = and_parts (nat_lt e.owner 65536 && nat_lt e.item n) (bounded n es) b in
    let r = and_parts (nat_lt e.owner 65536) (nat_lt e.item n) p.0 in
    (ltb-true e.owner 65536 r.0, ltb-true e.item n r.1, p.1)

pub find-bounded : (n : ℕ) (es : List Entry) (t i : ℕ) → bounded n es ≡ true → is_some (find (is_pair t i) es) ≡ true → (t < 65536) × (i < n)
find-bounded n [] t i b h = let z : ◌≡◌ {A = Bool} false true = h in absurd (false≢true z)
find-bounded n (e ∷ es) t i b h =
    let p = bounded_parts n e es b in
    ⊎_elim
    (λ is.
    let q = and_parts (owned t e) (is_on i e) is in
    (omega (arith, eqb-true e.owner t q.0), omega (arith, eqb-true e.item i q.1)))
    (λ not'. find-bounded n es t i p.2 (sym (ap is_some (find_past (is_pair t i) e es not')) ∙ h))
    (cases_Bool (is_pair t i e))

-- counting: an entry more is a pair more
module _ (n : ℕ) (e : Entry) (es : List Entry) where
  self_pair : is_pair e.owner e.item e ≡ true
  self_pair = and_from _ _ (eq-eqb e.owner e.owner refl) (eq-eqb e.item e.item refl)

  row_own : clear_of same_pair e es ≡ true → e.item < n → row_count (found (e ∷ es)) e.owner n ≡ row_count (found es) e.owner n + 1
  row_own fresh lt =
      let one : Option Entry → ℕ = λ o. cond (is_some (option_map value_of o)) 1 0 in
      let f : ℕ → ℕ = λ i. one (find (is_pair e.owner i) es) in
      let g : ℕ → ℕ = λ i. one (find (is_pair e.owner i) (e ∷ es)) in
      let there : g e.item ≡ 1 = ap one (find_here (is_pair e.owner e.item) e es self_pair) in
      let away : f e.item ≡ 0 = ap one (find-clear same_pair e es fresh) in
      sum_more f g e.item (omega (arith, there, away))
      (λ k ne. ap one (find_past (is_pair e.owner k) e es (and_right _ _ (ne_eqb e.item k (λ x. ne (sym x))))))
      n lt

  row_other : (t : ℕ) → (t ≢ e.owner) → row_count (found (e ∷ es)) t n ≡ row_count (found es) t n
  row_other t ne =
      ap (λ (row : ℕ → Option Entry). sum_below (λ i. cond (is_some (option_map value_of (row i))) 1 0) n)
      (fun_ext (λ k. find_past (is_pair t k) e es (and_left _ _ (ne_eqb e.owner t (λ x. ne (sym x))))))

pub row_found : (n : ℕ) (es : List Entry) (t : ℕ) → apart same_pair es ≡ true → bounded n es ≡ true → row_count (found es) t n ≡ count_of t es
row_found n [] t a b = sum-zero _ (λ k. refl) n
row_found n (e ∷ es) t a b =
    let p = and_parts (clear_of same_pair e es) (apart same_pair es) a in
    let q = bounded_parts n e es b in
    let less = row_found n es t p.1 q.2 in
    ⊎_elim
    (λ is.
    let same : e.owner ≡ t = eqb-true e.owner t is in
    let more : row_count (found (e ∷ es)) t n ≡ row_count (found es) t n + 1 = subst (λ (u : ℕ). row_count (found (e ∷ es)) u n ≡ row_count (found es) u n + 1) same (row_own n e es p.0 q.1) in
    let keeps : count_of t (e ∷ es) ≡ length (e ∷ filter (owned t) es) = ap length (cond-true (owned t e) _ _ is) in
    omega (arith, more, less, keeps))
    (λ off.
    let same = row_other n e es t (λ x. eqb-false e.owner t off (sym x)) in
    let keeps : count_of t (e ∷ es) ≡ count_of t es = ap length (cond-false (owned t e) _ _ off) in
    omega (arith, same, less, keeps))
    (cases_Bool (owned t e))

pub held_found : (n : ℕ) (es : List Entry) → apart same_pair es ≡ true → bounded n es ≡ true → held_count (found es) n ≡ length es
held_found n [] a b = sum-zero _ (λ t. sum-zero _ (λ k. refl) n) 65536
held_found n (e ∷ es) a b =
    let p = and_parts (clear_of same_pair e es) (apart same_pair es) a in
    let q = bounded_parts n e es b in
    let less = held_found n es p.1 q.2 in
    let more = sum_more (λ t. row_count (found es) t n) (λ t. row_count (found (e ∷ es)) t n) e.owner (row_own n e es p.0 q.1) (λ k ne. row_other n e es k ne) 65536 q.0 in
    omega (arith, more, less)
