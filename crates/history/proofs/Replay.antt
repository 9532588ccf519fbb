-- What acts leave when they are run alone, and when their reads come out the same from other values.
use Rattle.std.proofs.Common.{◌≡◌, ℕ, zero, suc, ◌<◌, Bool, true, false, cond, not, ◌&&◌, ◌||◌, eqb, List, [], ◌∷◌, length, get_or, set, ℤ, pos, is_some, Some, None, Option, unwrap_or, sym, refl, ap, ◌∙◌, subst, ap₂, inl, inr, arith}
use mathlib.Core.Path.{fun_ext}
use Rattle.std.proofs.lemmas.List.{get_or_past}
use Rattle.std.proofs.lemmas.Bool.{cases_eq, cases_lt, eq-eqb, ne_eqb, cond-false, or_left, or_right, and_from, not_from_false}
use Rattle.store.specs.Meaning.{laid}
use Rattle.scheduler.specs.Blockers.{In, first, later}
use Rattle.history.specs.Serial.{Act, got, put, after, ReadsRight, serial, SerialReadsRight}

pub laid-length : (row : ℕ → Option ℤ) (vs : List ℤ) → length (laid row vs) ≡ length vs
laid-length row [] = refl
laid-length row (v ∷ vs) = ap suc (laid-length (λ i. row (suc i)) vs)

pub laid_none : (vs : List ℤ) → laid (λ i. None) vs ≡ vs
laid_none [] = refl
laid_none (v ∷ vs) = ap (λ (ws : List ℤ). v ∷ ws) (laid_none vs)

pub laid-at : (row : ℕ → Option ℤ) (vs : List ℤ) (i : ℕ) (d : ℤ) → i < length vs → get_or (laid row vs) i d ≡ unwrap_or (row i) (get_or vs i d)
laid-at row [] i d h = absurd (omega arith)
laid-at row (v ∷ vs) zero d h = refl
laid-at row (v ∷ vs) (suc i) d h = laid-at (λ j. row (suc j)) vs i d (omega arith)

-- one value more in the row
pub set-laid : (row : ℕ → Option ℤ) (vs : List ℤ) (i : ℕ) (v : ℤ) → set (laid row vs) i v ≡ laid (λ j. cond (eqb j i) (Some v) (row j)) vs
set-laid row [] i v = refl
set-laid row (c ∷ vs) zero v =
    ap (λ (f : ℕ → Option ℤ). v ∷ laid f vs) (fun_ext (λ (j : ℕ). sym (cond-false (eqb (suc j) zero) (Some v) (row (suc j)) (ne_eqb (suc j) zero (λ e. omega arith)))))
set-laid row (c ∷ vs) (suc i) v =
    ap₂ (λ (o : Option ℤ) (ws : List ℤ). unwrap_or o c ∷ ws)
    (sym (cond-false (eqb zero (suc i)) (Some v) (row zero) (ne_eqb zero (suc i) (λ e. omega arith))))
    (set-laid (λ j. row (suc j)) vs i v ∙ ap (λ (f : ℕ → Option ℤ). laid f vs) (fun_ext (λ (j : ℕ). ap (λ (b : Bool). cond b (Some v) (row (suc j))) (same j))))
  where
    same : (j : ℕ) → eqb j i ≡ eqb (suc j) (suc i)
    same j = elim (cases_eq j i) [
      | inl e ↦ eq-eqb j i e ∙ sym (eq-eqb (suc j) (suc i) (ap suc e))
      | inr n ↦ ne_eqb j i n ∙ sym (ne_eqb (suc j) (suc i) (λ e. n (omega arith)))
    ]

-- two lists of values that agree at i where the row is silent
pub laid_agree : (row : ℕ → Option ℤ) (vs ws : List ℤ) (i : ℕ) (d : ℤ) → length vs ≡ length ws → (row i ≡ None → get_or vs i d ≡ get_or ws i d) → get_or (laid row vs) i d ≡ get_or (laid row ws) i d
laid_agree row vs ws i d long same = elim (cases_lt i (length vs)) [
  | inl h ↦ laid-at row vs i d h ∙ go (row i) refl ∙ sym (laid-at row ws i d (omega arith))
  | inr h ↦ get_or_past (laid row vs) i d (omega (arith, laid-length row vs)) ∙ sym (get_or_past (laid row ws) i d (omega (arith, laid-length row ws)))
]
  where
    go : (o : Option ℤ) → row i ≡ o → unwrap_or (row i) (get_or vs i d) ≡ unwrap_or (row i) (get_or ws i d)
    go None e = ap (unwrap_or (row i)) (same e)
    go (Some v) e = ap (λ (o : Option ℤ). unwrap_or o (get_or vs i d)) e ∙ sym (ap (λ (o : Option ℤ). unwrap_or o (get_or ws i d)) e)

-- where the row is silent, the value stays
pub laid_silent : (row : ℕ → Option ℤ) (vs : List ℤ) (i : ℕ) (d : ℤ) → row i ≡ None → get_or (laid row vs) i d ≡ get_or vs i d
laid_silent row vs i d e = elim (cases_lt i (length vs)) [
  | inl h ↦ laid-at row vs i d h ∙ ap (λ (o : Option ℤ). unwrap_or o (get_or vs i d)) e
  | inr h ↦ get_or_past (laid row vs) i d (omega (arith, laid-length row vs)) ∙ sym (get_or_past vs i d h)
]

-- the values that acts wrote last, by item
abbrev pub writes : List Act → ℕ → Option ℤ
writes [] j = None
writes (got i v ∷ as') j = writes as' j
writes (put i v ∷ as') j = cond (eqb j i) (Some v) (writes as' j)

-- acts read the item before they wrote it
abbrev pub outside : ℕ → List Act → Bool
outside j [] = false
outside j (got i v ∷ as') = (eqb i j && not (is_some (writes as' j))) || outside j as'
outside j (put i v ∷ as') = outside j as'

pub after-laid : (vs : List ℤ) (as' : List Act) → after vs as' ≡ laid (writes as') vs
after-laid vs [] = sym (laid_none vs)
after-laid vs (got i v ∷ as') = after-laid vs as'
after-laid vs (put i v ∷ as') = ap (λ (ws : List ℤ). set ws i v) (after-laid vs as') ∙ set-laid (writes as') vs i v

-- reads come out the same from values that agree wherever they were read from outside
pub right_same : (vs ws : List ℤ) (as' : List Act) → length vs ≡ length ws → ((j : ℕ) → outside j as' ≡ true → get_or vs j (pos 0) ≡ get_or ws j (pos 0)) → ReadsRight vs as' → ReadsRight ws as'
right_same vs ws [] long same h = tt
right_same vs ws (got i v ∷ as') long same h = (
  ap (λ (us : List ℤ). get_or us i (pos 0)) (after-laid ws as') ∙ sym (laid_agree (writes as') vs ws i (pos 0) long (λ e. same i (here e))) ∙ sym (ap (λ (us : List ℤ). get_or us i (pos 0)) (after-laid vs as')) ∙ h.0,
  right_same vs ws as' long (λ j o. same j (or_right (eqb i j && not (is_some (writes as' j))) (outside j as') o)) h.1,
)
  where
    here : writes as' i ≡ None → outside i (got i v ∷ as') ≡ true
    here e = or_left (eqb i i && not (is_some (writes as' i))) (outside i as') (and_from (eqb i i) (not (is_some (writes as' i))) (eq-eqb i i refl) (not_from_false (is_some (writes as' i)) (ap is_some e)))
right_same vs ws (put i v ∷ as') long same h = right_same vs ws as' long same h

-- the serial run looks at the acts of its own transactions only
pub serial_same : (f g : ℕ → List Act) (vs : List ℤ) (ts : List ℕ) → ((t : ℕ) → In t ts → f t ≡ g t) → serial f vs ts ≡ serial g vs ts
serial_same f g vs [] e = refl
serial_same f g vs (t ∷ ts) e = ap₂ after (serial_same f g vs ts (λ u m. e u (later m))) (e t first)

pub serial_right_same : (f g : ℕ → List Act) (vs : List ℤ) (ts : List ℕ) → ((t : ℕ) → In t ts → f t ≡ g t) → SerialReadsRight f vs ts → SerialReadsRight g vs ts
serial_right_same f g vs [] e h = tt
serial_right_same f g vs (t ∷ ts) e h = (
  subst (ReadsRight (serial g vs ts)) (e t first) (subst (λ (ws : List ℤ). ReadsRight ws (f t)) (serial_same f g vs ts (λ u m. e u (later m))) h.0),
  serial_right_same f g vs ts (λ u m. e u (later m)) h.1,
)
