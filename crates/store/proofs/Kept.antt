-- What a push, a filter and a new value leave of a list of entries.
use Rattle.std.proofs.Common.{◌≡◌, ℕ, zero, suc, ◌+◌, ◌<◌, ◌≤◌, Bool, true, false, cond, not, ◌&&◌, eqb, ltb, List, [], ◌∷◌, ◌++◌, length, length-append, ℤ, Some, None, filter, Option, sym, refl, ap, ◌∙◌, ⊎_elim, arith, find}
use Rattle.std.proofs.lemmas.Bool.{and_from, and_left, and_parts, cases_Bool, cond-false, cond-true, eqb-false, eqb-true, lt-ltb, ne_eqb}
use Rattle.std.proofs.lemmas.List.Elements.{filter-append}
use Rattle.std.proofs.lemmas.List.Folds.{list_all-append}
use Rattle.std.proofs.lemmas.Option.{none-some}
use Rattle.std.specs.List.{list_all}
use Rattle.std.specs.Option.{option_or}
use Rattle.std.proofs.lemmas.Bool.Decides.{nat_tests}
use Rattle.store.specs.declared.table.Entry.{Entry}
use Rattle.store.specs.Entries.{apart, bounded, clear_of, count_of, in_bounds, entry, is_on, is_pair, others, owned, revalued, same_item, same_pair}
use Rattle.store.specs.Finding.{find-clear, find_here, find_past}

pub nat_eq_flip : (a b : ℕ) → eqb a b ≡ eqb b a
nat_eq_flip a b = grind (arith, nat_tests)

none_off : (q : Entry → Bool) (e : Entry) (es : List Entry) → find q (e ∷ es) ≡ None → (q e ≡ false) × (find q es ≡ None)
none_off q e es h =
    ⊎_elim
    (λ is. absurd (none-some e (sym h ∙ find_here q e es is)))
    (λ off. (off, sym (find_past q e es off) ∙ h))
    (cases_Bool (q e))

-- ---- one entry more
-- the new entry, where there is no other
abbrev pub or_new : (Entry → Bool) → Entry → Option Entry → Option Entry
or_new q e o = option_or o (cond (q e) (Some e) None)

list_all-push : (p : Entry → Bool) (es : List Entry) (e : Entry) → list_all p es ≡ true → p e ≡ true → list_all p (es ++ e ∷ []) ≡ true
list_all-push p es e h is = list_all-append p es (e ∷ []) ∙ and_from (list_all p es) (p e && true) h (and_from (p e) true is refl)

-- nothing clashes with e, and clashes go both ways
pub apart-push : (clash : Entry → Entry → Bool) (es : List Entry) (e : Entry) → ((f : Entry) → clash f e ≡ clash e f) → apart clash es ≡ true → find (clash e) es ≡ None → apart clash (es ++ e ∷ []) ≡ true
apart-push clash [] e flip h none = refl
apart-push clash (f ∷ es) e flip h none =
    let p = and_parts (clear_of clash f es) (apart clash es) h in
    let q = none_off (clash e) f es none in
    and_from (clear_of clash f (es ++ e ∷ [])) (apart clash (es ++ e ∷ [])) (list_all-push (λ g. not (clash f g)) es e p.0 (ap not (flip f ∙ q.0))) (apart-push clash es e flip p.1 q.1)

pub bounded-push : (n : ℕ) (es : List Entry) (e : Entry) → bounded n es ≡ true → e.owner < 65536 → e.item < n → bounded n (es ++ e ∷ []) ≡ true
bounded-push n es e h o i = list_all-push (in_bounds n) es e h (and_from (ltb e.owner 65536) (ltb e.item n) (lt-ltb e.owner 65536 o) (lt-ltb e.item n i))

pub count-push : (t : ℕ) (es : List Entry) (e : Entry) → count_of t (es ++ e ∷ []) ≡ count_of t es + cond (owned t e) 1 0
count-push t es e =
    ap length (filter-append (owned t) es (e ∷ []))
    ∙ length-append (filter (owned t) es) (filter (owned t) (e ∷ []))
    ∙ ap (λ (n : ℕ). count_of t es + n) (elim (owned t e) as (λ b. length (cond b (e ∷ []) []) ≡ cond b 1 0) [ true ↦ refl | false ↦ refl ])

-- ---- a filter
list_all_kept : (p q : Entry → Bool) (es : List Entry) → list_all p es ≡ true → list_all p (filter q es) ≡ true
list_all_kept p q [] h = refl
list_all_kept p q (e ∷ es) h =
    let r = and_parts (p e) (list_all p es) h in
    let less = list_all_kept p q es r.1 in
    elim (q e) as (λ b. list_all p (cond b (e ∷ filter q es) (filter q es)) ≡ true) [ true ↦ and_from (p e) (list_all p (filter q es)) r.0 less | false ↦ less ]

pub apart_kept : (clash : Entry → Entry → Bool) (q : Entry → Bool) (es : List Entry) → apart clash es ≡ true → apart clash (filter q es) ≡ true
apart_kept clash q [] h = refl
apart_kept clash q (e ∷ es) h =
    let p = and_parts (clear_of clash e es) (apart clash es) h in
    let less = apart_kept clash q es p.1 in
    elim (q e) as (λ b. apart clash (cond b (e ∷ filter q es) (filter q es)) ≡ true) [ true ↦ and_from (clear_of clash e (filter q es)) (apart clash (filter q es)) (list_all_kept (λ f. not (clash e f)) q es p.0) less | false ↦ less ]

pub bounded_kept : (n : ℕ) (q : Entry → Bool) (es : List Entry) → bounded n es ≡ true → bounded n (filter q es) ≡ true
bounded_kept n q es h = list_all_kept (in_bounds n) q es h

pub count_kept : (t : ℕ) (q : Entry → Bool) (es : List Entry) → count_of t (filter q es) ≤ count_of t es
count_kept t q [] = omega arith
count_kept t q (e ∷ es) =
    let less = count_kept t q es in
    elim (q e) as (λ b. count_of t (cond b (e ∷ filter q es) (filter q es)) ≤ length (cond (owned t e) (e ∷ filter (owned t) es) (filter (owned t) es))) [
      | true ↦ elim (owned t e) as (λ b. length (cond b (e ∷ filter (owned t) (filter q es)) (filter (owned t) (filter q es))) ≤ length (cond b (e ∷ filter (owned t) es) (filter (owned t) es))) [ true ↦ omega (arith, less) | false ↦ less ]
      | false ↦ elim (owned t e) as (λ b. count_of t (filter q es) ≤ length (cond b (e ∷ filter (owned t) es) (filter (owned t) es))) [ true ↦ omega (arith, less) | false ↦ less ]
    ]

find_kept_none : (q p : Entry → Bool) (es : List Entry) → find q es ≡ None → find q (filter p es) ≡ None
find_kept_none q p [] h = refl
find_kept_none q p (e ∷ es) h =
    let r = none_off q e es h in
    let less = find_kept_none q p es r.1 in
    elim (p e) as (λ b. find q (cond b (e ∷ filter p es) (filter p es)) ≡ None) [ true ↦ find_past q e (filter p es) r.0 ∙ less | false ↦ less ]

-- t's entries are gone, and the other pairs have what they had
pub pair_kept : (es : List Entry) (t u i : ℕ) → find (is_pair u i) (filter (others t) es) ≡ cond (eqb u t) None (find (is_pair u i) es)
pair_kept [] t u i = elim (eqb u t) as (λ b. ◌≡◌ {A = Option Entry} None (cond b None None)) [ true ↦ refl | false ↦ refl ]
pair_kept (e ∷ es) t u i =
    let less = pair_kept es t u i in
    let rest = filter (others t) es in
    ⊎_elim
    (λ own.
    let gone : filter (others t) (e ∷ es) ≡ rest = cond-false (others t e) (e ∷ rest) rest (ap not own) in
    ap (find (is_pair u i)) gone
    ∙ less
    ∙ ⊎_elim
    (λ same. cond-true (eqb u t) None _ same ∙ sym (cond-true (eqb u t) None _ same))
    (λ differ.
    let off : owned u e ≡ false = ne_eqb e.owner u (λ x. eqb-false u t differ (sym x ∙ eqb-true e.owner t own)) in
    ap (λ (o : Option Entry). cond (eqb u t) None o) (sym (find_past (is_pair u i) e es (and_left (owned u e) (is_on i e) off))))
    (cases_Bool (eqb u t)))
    (λ foreign.
    let stays : filter (others t) (e ∷ es) ≡ e ∷ rest = cond-true (others t e) (e ∷ rest) rest (ap not foreign) in
    ap (find (is_pair u i)) stays
    ∙ ap (λ (o : Option Entry). cond (is_pair u i e) (Some e) o) less
    ∙ ⊎_elim
    (λ same.
    let off : owned u e ≡ false = ne_eqb e.owner u (λ x. eqb-false e.owner t foreign (x ∙ eqb-true u t same)) in
    cond-false (is_pair u i e) (Some e) _ (and_left (owned u e) (is_on i e) off) ∙ cond-true (eqb u t) None _ same ∙ sym (cond-true (eqb u t) None _ same))
    (λ differ. ap (λ (o : Option Entry). cond (is_pair u i e) (Some e) o) (cond-false (eqb u t) None _ differ) ∙ sym (cond-false (eqb u t) None _ differ))
    (cases_Bool (eqb u t)))
    (cases_Bool (owned t e))

-- the entry, unless it is t's
abbrev pub spare : ℕ → Option Entry → Option Entry
spare t None = None
spare t (Some e) = cond (owned t e) None (Some e)

pub on_kept : (es : List Entry) (t i : ℕ) → apart same_item es ≡ true → find (is_on i) (filter (others t) es) ≡ spare t (find (is_on i) es)
on_kept [] t i a = refl
on_kept (e ∷ es) t i a =
    let p = and_parts (clear_of same_item e es) (apart same_item es) a in
    let rest = filter (others t) es in
    ⊎_elim
    (λ on.
    let none : find (is_on i) es ≡ None = ap (λ (j : ℕ). find (is_on j) es) (sym (eqb-true e.item i on)) ∙ find-clear same_item e es p.0 in
    let none' : find (is_on i) rest ≡ None = find_kept_none (is_on i) (others t) es none in
    elim (owned t e) as (λ b. find (is_on i) (cond (not b) (e ∷ rest) rest) ≡ cond b None (Some e)) [ true ↦ none' | false ↦ find_here (is_on i) e rest on ]
    ∙ sym (ap (spare t) (find_here (is_on i) e es on)))
    (λ off.
    elim (others t e) as (λ b. find (is_on i) (cond b (e ∷ rest) rest) ≡ find (is_on i) rest) [ true ↦ find_past (is_on i) e rest off | false ↦ refl ]
    ∙ on_kept es t i p.1
    ∙ sym (ap (spare t) (find_past (is_on i) e es off)))
    (cases_Bool (is_on i e))

-- ---- another value at one place
clear-revalued : (f : Entry) (es : List Entry) (k : ℕ) (v : ℤ) → clear_of same_pair f (revalued es k v) ≡ clear_of same_pair f es
clear-revalued f [] k v = refl
clear-revalued f (e ∷ es) zero v = refl
clear-revalued f (e ∷ es) (suc k) v = ap (λ (b : Bool). not (same_pair f e) && b) (clear-revalued f es k v)

pub apart-revalued : (es : List Entry) (k : ℕ) (v : ℤ) → apart same_pair (revalued es k v) ≡ apart same_pair es
apart-revalued [] k v = refl
apart-revalued (e ∷ es) zero v = refl
apart-revalued (e ∷ es) (suc k) v = ap (λ (b : Bool). b && apart same_pair (revalued es k v)) (clear-revalued e es k v) ∙ ap (λ (b : Bool). clear_of same_pair e es && b) (apart-revalued es k v)

pub bounded-revalued : (n : ℕ) (es : List Entry) (k : ℕ) (v : ℤ) → bounded n (revalued es k v) ≡ bounded n es
bounded-revalued n [] k v = refl
bounded-revalued n (e ∷ es) zero v = refl
bounded-revalued n (e ∷ es) (suc k) v = ap (λ (b : Bool). (ltb e.owner 65536 && ltb e.item n) && b) (bounded-revalued n es k v)

pub count-revalued : (t : ℕ) (es : List Entry) (k : ℕ) (v : ℤ) → count_of t (revalued es k v) ≡ count_of t es
count-revalued t [] k v = refl
count-revalued t (e ∷ es) zero v = elim (owned t e) as (λ b. length (cond b (entry e.owner e.item v ∷ filter (owned t) es) (filter (owned t) es)) ≡ length (cond b (e ∷ filter (owned t) es) (filter (owned t) es))) [ true ↦ refl | false ↦ refl ]
count-revalued t (e ∷ es) (suc k) v = elim (owned t e) as (λ b. length (cond b (e ∷ filter (owned t) (revalued es k v)) (filter (owned t) (revalued es k v))) ≡ length (cond b (e ∷ filter (owned t) es) (filter (owned t) es))) [ true ↦ ap suc (count-revalued t es k v) | false ↦ count-revalued t es k v ]

pub length-revalued : (es : List Entry) (k : ℕ) (v : ℤ) → length (revalued es k v) ≡ length es
length-revalued [] k v = refl
length-revalued (e ∷ es) zero v = refl
length-revalued (e ∷ es) (suc k) v = ap suc (length-revalued es k v)
