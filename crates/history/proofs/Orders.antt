-- Where two events stand in a history, one event more, and an arrangement of written items.
use Rattle.std.proofs.Common.{◌≡◌, ℕ, ◌⊎◌, List, [], ◌∷◌, ◌++◌, sym, refl, ap, subst, inl, inr}
use Rattle.std.proofs.lemmas.Bool.{cases_eq}
use Rattle.scheduler.specs.Blockers.{In, first, later}
use Rattle.scheduler.proofs.Members.{in_nothing, in_cons, in_first}
use Rattle.history.specs.Serial.{Act}
use Rattle.history.specs.Events.{Event, read, wrote, commit, abort, Touches, IsWrite, Ends, Later, Once, Arranged, items_put}

head_same : {A : Type 0} {x y : A} {xs ys : List A} → x ∷ xs ≡ y ∷ ys → x ≡ y
head_same e = cc

tail_same : {A : Type 0} {x y : A} {xs ys : List A} → x ∷ xs ≡ y ∷ ys → xs ≡ ys
tail_same e = cc

-- a place in x ∷ h is the first, or a place in h
pub split_cons : {A : Type 0} {x y : A} {h : List A} (mid old : List A) → x ∷ h ≡ mid ++ y ∷ old → ((x ≡ y) × (mid ≡ []) × (h ≡ old)) ⊎ ((m : List A) × (mid ≡ x ∷ m) × (h ≡ m ++ y ∷ old))
split_cons [] old e = inl (head_same e, refl, tail_same e)
split_cons {A} {x} {y} {h} (m ∷ mid) old e = inr (mid, ap (λ (z : A). z ∷ mid) (sym (head_same e)), tail_same e)

pub in_split : {A : Type 0} {x : A} {h : List A} → In x h → (a : List A) × (b : List A) × (h ≡ a ++ x ∷ b)
in_split {A} (first {xs}) = ([], xs, refl)
in_split {A} (later {y} m) = let s = in_split m in (y ∷ s.0, s.1, ap (λ (z : List A). y ∷ z) s.2)

in_middle : {A : Type 0} {x : A} (a b : List A) → In x (a ++ x ∷ b)
in_middle [] b = first
in_middle (y ∷ a) b = later (in_middle a b)

pub split_in : {A : Type 0} {x : A} {h : List A} (a b : List A) → h ≡ a ++ x ∷ b → In x h
split_in {A} {x} a b e = subst (λ (z : List A). In x z) (sym e) (in_middle a b)

in_after : {A : Type 0} {x : A} (a : List A) {b : List A} → In x b → In x (a ++ b)
in_after [] m = m
in_after (y ∷ a) m = later (in_after a m)

-- both events stand in the history
module _ {d e : Event} {h : List Event} (o : Later d e h) where
  pub newer_in : In e h
  newer_in = split_in o.since (o.between ++ d ∷ o.before) o.split

  pub older_in : In d h
  older_in = subst (λ (z : List Event). In d z) (sym o.split) (in_after o.since (later (in_middle o.between o.before)))

  pub between_in : {x : Event} → In x o.between → In x h
  between_in {x} m = subst (λ (z : List Event). In x z) (sym o.split) (in_after o.since (later (left o.between m)))
    where
      left : (a : List Event) → In x a → In x (a ++ d ∷ o.before)
      left a first = first
      left a (later k) = later (left _ k)

  pub later_more : (x : Event) → Later d e (x ∷ h)
  later_more x = record { since = x ∷ o.since; between = o.between; before = o.before; split = ap (λ (z : List Event). x ∷ z) o.split }

pub ends_between : {d e : Event} {h : List Event} (o : Later d e h) (t : ℕ) → Ends t o.between → Ends t h
ends_between o t (inl m) = inl (between_in o m)
ends_between o t (inr m) = inr (between_in o m)

-- the newer event is the new one, or both stood there before
pub later_cons : {x d e : Event} {h : List Event} (o : Later d e (x ∷ h)) → ((e ≡ x) × (h ≡ o.between ++ d ∷ o.before)) ⊎ ((k : Later d e h) × (k.between ≡ o.between))
later_cons {x} {d} {e} {h} o = elim (split_cons o.since (o.between ++ d ∷ o.before) o.split) [
  | inl s ↦ inl (sym s.0, s.2)
  | inr s ↦ inr (record { since = s.0; between = o.between; before = o.before; split = s.2 }, refl)
]

pub ends_more : (t : ℕ) (x : Event) {h : List Event} → Ends t h → Ends t (x ∷ h)
ends_more t x (inl m) = inl (later m)
ends_more t x (inr m) = inr (later m)

-- an event of t on an item is its read or its write
pub touch_cases : (t i : ℕ) (e : Event) → Touches t i e → (e ≡ read t i) ⊎ (e ≡ wrote t i)
touch_cases t i (read u j) h = inl (cc (h.0, h.1))
touch_cases t i (wrote u j) h = inr (cc (h.0, h.1))
touch_cases t i (commit u) h = absurd h
touch_cases t i (abort u) h = absurd h

pub write_is : (t i : ℕ) (e : Event) → Touches t i e → IsWrite e → e ≡ wrote t i
write_is t i (read u j) h w = absurd w
write_is t i (wrote u j) h w = cc (h.0, h.1)
write_is t i (commit u) h w = absurd w
write_is t i (abort u) h w = absurd w

pub commit_same : {t u : ℕ} → commit t ≡ commit u → t ≡ u
commit_same e = cc

pub abort_same : {t u : ℕ} → abort t ≡ abort u → t ≡ u
abort_same e = cc

pub read_same : {t u i j : ℕ} → read t i ≡ read u j → (t ≡ u) × (i ≡ j)
read_same e = (cc, cc)

pub wrote_same : {t u i j : ℕ} → wrote t i ≡ wrote u j → (t ≡ u) × (i ≡ j)
wrote_same e = (cc, cc)

-- events of different sorts
abbrev sort : Event → ℕ
sort (read u j) = 0
sort (wrote u j) = 1
sort (commit u) = 2
sort (abort u) = 3

pub apart : {d e : Event} → d ≡ e → (sort d ≡ sort e → ⊥) → ⊥
apart e n = n (ap sort e)

-- each item once
in_or_not : (i : ℕ) (is : List ℕ) → In i is ⊎ (In i is → ⊥)
in_or_not i [] = inr in_nothing
in_or_not i (j ∷ is) = elim (cases_eq i j) [
  | inl e ↦ inl (in_first e)
  | inr n ↦ elim (in_or_not i is) [
    | inl m ↦ inl (later m)
    | inr k ↦ inr (λ m. elim (in_cons m) [ inl e ↦ n e | inr m' ↦ k m' ])
  ]
]

pub arrange : (as' : List Act) → (is : List ℕ) × Arranged as' is
arrange as' = let o = once-each (items_put as') in (o.0, record { once = o.1; each = o.2; only = o.3 })
  where
    once-each : (js : List ℕ) → (is : List ℕ) × Once is × ((i : ℕ) → In i js → In i is) × ((i : ℕ) → In i is → In i js)
    once-each [] = ([], tt, (λ i m. m), (λ i m. m))
    once-each (j ∷ js) = let o = once-each js in elim (in_or_not j o.0) [
      | inl m ↦ (o.0, o.1, (λ i k. elim (in_cons k) [ inl e ↦ subst (λ (n : ℕ). In n o.0) (sym e) m | inr k' ↦ o.2 i k' ]), λ i k. later (o.3 i k))
      | inr n ↦ (j ∷ o.0, (n, o.1), (λ i k. elim (in_cons k) [ inl e ↦ in_first e | inr k' ↦ later (o.2 i k') ]), λ i k. elim (in_cons k) [ inl e ↦ in_first e | inr k' ↦ later (o.3 i k') ])
    ]
