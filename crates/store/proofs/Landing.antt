-- What is in the slice after a transaction's entries have landed there.
use Rattle.std.proofs.Common.{◌≡◌, ℕ, ◌<◌, ◌≤◌, true, false, cond, ◌&&◌, ltb, List, [], ◌∷◌, length, get_or, set, ℤ, pos, None, Option, unwrap_or, sym, refl, ap, ◌∙◌, subst, ⊎_elim, arith, find}
use Rattle.std.proofs.lemmas.List.{drop-set-lt, ext_get_or, get_or-set_other, get_or-set_same, get_or-take, length-set, length-take}
use Rattle.std.proofs.lemmas.Bool.{and_from, and_left, and_parts, and_right, cases_Bool, cond-false, cond-true, eqb-false, eqb-true, lt-ltb}
use Rattle.std.specs.Option.{option_map}
use Rattle.store.specs.declared.table.Entry.{Entry}
use Rattle.store.specs.Entries.{apart, bounded, clear_of, found, is_on, is_pair, landed, owned, same_pair, size_of, value_of}
use Rattle.store.specs.Finding.{bounded_parts, find-clear, find_here, find_past}
use Rattle.store.specs.Laid.{get_or-laid, length-laid}
use Rattle.store.specs.Meaning.{laid}
use Rattle.store.specs.Slices.{items, rest}

pub bounded-more : (n m : ℕ) (es : List Entry) → n ≤ m → bounded n es ≡ true → bounded m es ≡ true
bounded-more n m [] le h = refl
bounded-more n m (e ∷ es) le h =
    let p = bounded_parts n e es h in
    and_from (ltb e.owner 65536 && ltb e.item m) (bounded m es) (and_from (ltb e.owner 65536) (ltb e.item m) (lt-ltb e.owner 65536 p.0) (lt-ltb e.item m (omega arith))) (bounded-more n m es le p.2)

pub length-landed : (t : ℕ) (es : List Entry) (vs : List ℤ) → length (landed t es vs) ≡ length vs
length-landed t [] vs = refl
length-landed t (e ∷ es) vs =
    length-landed t es (cond (owned t e) (set vs e.item e.value) vs)
    ∙ elim (owned t e) as (λ b. length (cond b (set vs e.item e.value) vs) ≡ length vs) [ true ↦ length-set vs e.item e.value | false ↦ refl ]

pub size_of-landed : (t : ℕ) (es : List Entry) (vs : List ℤ) → size_of (landed t es vs) ≡ size_of vs
size_of-landed t es vs = omega (arith, length-landed t es vs)

pub rest-landed : (n t : ℕ) (es : List Entry) (vs : List ℤ) → n ≤ 1024 → bounded n es ≡ true → rest (landed t es vs) ≡ rest vs
rest-landed n t [] vs le b = refl
rest-landed n t (e ∷ es) vs le b =
    let p = bounded_parts n e es b in
    rest-landed n t es (cond (owned t e) (set vs e.item e.value) vs) le p.2
    ∙ elim (owned t e) as (λ b. rest (cond b (set vs e.item e.value) vs) ≡ rest vs) [ true ↦ drop-set-lt 1024 vs e.item e.value (omega arith) | false ↦ refl ]

-- by places: t's value where t has one
pub landed_at : (n t : ℕ) (es : List Entry) (vs : List ℤ) → n ≤ length vs → bounded n es ≡ true → apart same_pair es ≡ true → (i : ℕ) → get_or (landed t es vs) i (pos 0) ≡ unwrap_or (found es t i) (get_or vs i (pos 0))
landed_at n t [] vs le b a i = refl
landed_at n t (e ∷ es) vs le b a i =
    let p = bounded_parts n e es b in
    let q = and_parts (clear_of same_pair e es) (apart same_pair es) a in
    let or_else : ℤ → Option Entry → ℤ = λ x o. unwrap_or (option_map value_of o) x in
    ⊎_elim
    (λ own.
    let ws = set vs e.item e.value in
    let le' : n ≤ length ws = omega (arith, length-set vs e.item e.value) in
    ap (λ (l : List ℤ). get_or (landed t es l) i (pos 0)) (cond-true (owned t e) ws vs own)
    ∙ landed_at n t es ws le' p.2 q.1 i
    ∙ ⊎_elim
    (λ on.
    let same : e.item ≡ i = eqb-true e.item i on in
    let none : find (is_pair t i) es ≡ None = ap (λ (u : ℕ). find (is_pair u i) es) (sym (eqb-true e.owner t own)) ∙ ap (λ (j : ℕ). find (is_pair e.owner j) es) (sym same) ∙ find-clear same_pair e es q.0 in
    ap (or_else (get_or ws i (pos 0))) none
    ∙ subst (λ (j : ℕ). get_or ws j (pos 0) ≡ e.value) same (get_or-set_same vs e.item e.value (pos 0) (omega arith))
    ∙ sym (ap (or_else (get_or vs i (pos 0))) (find_here (is_pair t i) e es (and_from (owned t e) (is_on i e) own on))))
    (λ off.
    ap (λ (x : ℤ). unwrap_or (found es t i) x) (get_or-set_other vs e.item i e.value (pos 0) (λ x. eqb-false e.item i off (sym x)))
    ∙ sym (ap (or_else (get_or vs i (pos 0))) (find_past (is_pair t i) e es (and_right (owned t e) (is_on i e) off))))
    (cases_Bool (is_on i e)))
    (λ foreign.
    ap (λ (l : List ℤ). get_or (landed t es l) i (pos 0)) (cond-false (owned t e) (set vs e.item e.value) vs foreign)
    ∙ landed_at n t es vs le p.2 q.1 i
    ∙ sym (ap (or_else (get_or vs i (pos 0))) (find_past (is_pair t i) e es (and_left (owned t e) (is_on i e) foreign))))
    (cases_Bool (owned t e))

pub length_items : (vs : List ℤ) → length (items vs) ≡ size_of vs
length_items vs = length-take 1024 vs

pub get_or-items : (vs : List ℤ) (i : ℕ) → i < size_of vs → get_or (items vs) i (pos 0) ≡ get_or vs i (pos 0)
get_or-items vs i lt = get_or-take 1024 vs i (pos 0) (omega arith)

pub items-landed : (t : ℕ) (es : List Entry) (vs : List ℤ) → bounded (size_of vs) es ≡ true → apart same_pair es ≡ true → items (landed t es vs) ≡ laid (found es t) (items vs)
items-landed t es vs b a =
    let ws = landed t es vs in
    let long : length (items ws) ≡ size_of vs = omega (arith, length_items ws, length-landed t es vs) in
    ext_get_or (pos 0) (items ws) (laid (found es t) (items vs)) (long ∙ sym (length-laid (found es t) (items vs) ∙ length_items vs))
    (λ i lt.
    let lt' : i < size_of vs = omega (arith, long) in
    get_or-items ws i (omega (arith, length-landed t es vs))
    ∙ landed_at (size_of vs) t es vs (omega arith) b a i
    ∙ sym (get_or-laid (found es t) (items vs) i (omega (arith, length_items vs)) ∙ ap (λ (x : ℤ). unwrap_or (found es t i) x) (get_or-items vs i lt')))
