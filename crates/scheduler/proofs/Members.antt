-- Membership in a list, and which of two members stands before the other.
use Rattle.std.proofs.Common.{◌≡◌, Bool, true, false, cond, ◌⊎◌, List, [], ◌∷◌, ◌++◌, filter, sym, refl, ap, ◌∙◌, subst, inl, inr}
use Rattle.std.proofs.lemmas.Bool.{both_ways}
use Rattle.scheduler.specs.Blockers.{In, first, later}

pub in_nothing : {A : Type 0} {x : A} → In x [] → ⊥
in_nothing m = elim m [ ]

pub in_cons : {A : Type 0} {x y : A} {xs : List A} → In x (y ∷ xs) → (x ≡ y) ⊎ In x xs
in_cons first = inl refl
in_cons (later m) = inr m

pub in_first : {A : Type 0} {x y : A} {xs : List A} → x ≡ y → In x (y ∷ xs)
in_first {A} {x} {y} {xs} e = subst (λ (z : A). In x (z ∷ xs)) e first

pub in_left : {A : Type 0} {x : A} {xs : List A} (ys : List A) → In x xs → In x (xs ++ ys)
in_left ys first = first
in_left ys (later m) = later (in_left ys m)

pub in_right : {A : Type 0} {x : A} (xs : List A) {ys : List A} → In x ys → In x (xs ++ ys)
in_right [] m = m
in_right (x ∷ xs) m = later (in_right xs m)

pub in_append : {A : Type 0} {x : A} (xs : List A) {ys : List A} → In x (xs ++ ys) → In x xs ⊎ In x ys
in_append [] m = inr m
in_append {A} {x} (y ∷ xs) {ys} m = elim (in_cons m) [
  | inl e ↦ inl (in_first e)
  | inr k ↦ elim (in_append xs k) [ inl j ↦ inl (later j) | inr j ↦ inr j ]
]

pub in_push : {A : Type 0} {x : A} (xs : List A) (y : A) → In x (xs ++ y ∷ []) → In x xs ⊎ (x ≡ y)
in_push xs y m = elim (in_append xs m) [
  | inl k ↦ inl k
  | inr k ↦ elim (in_cons k) [ inl e ↦ inr e | inr n ↦ absurd (in_nothing n) ]
]

-- what a filter keeps
pub in_kept : {A : Type 0} {x : A} (p : A → Bool) (xs : List A) → In x (filter p xs) → In x xs × (p x ≡ true)
in_kept p [] m = absurd (in_nothing m)
in_kept {A} {x} p (y ∷ xs) m = go (p y) refl (in_kept p xs) m
  where
    go : (b : Bool) → p y ≡ b → (In x (filter p xs) → In x xs × (p x ≡ true)) → In x (cond b (y ∷ filter p xs) (filter p xs)) → In x (y ∷ xs) × (p x ≡ true)
    go true e rest k = elim (in_cons k) [
      | inl q ↦ (in_first q, ap p q ∙ e)
      | inr j ↦ (later (rest j).0, (rest j).1)
    ]
    go false e rest k = (later (rest k).0, (rest k).1)

pub kept_in : {A : Type 0} {x : A} (p : A → Bool) (xs : List A) → In x xs → p x ≡ true → In x (filter p xs)
kept_in p [] m h = absurd (in_nothing m)
kept_in {A} {x} p (y ∷ xs) m h = go (p y) refl (kept_in p xs) (in_cons m)
  where
    go : (b : Bool) → p y ≡ b → (In x xs → p x ≡ true → In x (filter p xs)) → (x ≡ y) ⊎ In x xs → In x (cond b (y ∷ filter p xs) (filter p xs))
    go true e rest (inl q) = in_first q
    go true e rest (inr k) = later (rest k h)
    go false e rest (inl q) = absurd (both_ways (p y) e (ap p (sym q) ∙ h))
    go false e rest (inr k) = rest k h

-- x stands before y
pub data Before {A : Type 0} (x y : A) : List A → Type 0 where
  now : {xs : List A} → In y xs → Before x y (x ∷ xs)
  then : {z : A} {xs : List A} → Before x y xs → Before x y (z ∷ xs)

pub before-nothing : {A : Type 0} {x y : A} → Before x y [] → ⊥
before-nothing m = elim m [ ]

pub before_cons : {A : Type 0} {x y z : A} {xs : List A} → Before x y (z ∷ xs) → ((x ≡ z) × In y xs) ⊎ Before x y xs
before_cons (now m) = inl (refl, m)
before_cons (then b) = inr b

pub before-first : {A : Type 0} {x y z : A} {xs : List A} → x ≡ z → In y xs → Before x y (z ∷ xs)
before-first {A} {x} {y} {z} {xs} e m = subst (λ (w : A). Before x y (w ∷ xs)) e (now m)

pub before-push : {A : Type 0} {x y : A} (xs : List A) (z : A) → Before x y (xs ++ z ∷ []) → Before x y xs ⊎ (In x xs × (y ≡ z))
before-push [] z b = elim (before_cons b) [ inl p ↦ absurd (in_nothing p.1) | inr c ↦ absurd (before-nothing c) ]
before-push (w ∷ xs) z b = elim (before_cons b) [
  | inl p ↦ elim (in_push xs z p.1) [ inl m ↦ inl (before-first p.0 m) | inr e ↦ inr (in_first p.0, e) ]
  | inr c ↦ elim (before-push xs z c) [ inl d ↦ inl (then d) | inr p ↦ inr (later p.0, p.1) ]
]

pub before_kept : {A : Type 0} {x y : A} (p : A → Bool) (xs : List A) → Before x y (filter p xs) → Before x y xs
before_kept p [] b = absurd (before-nothing b)
before_kept {A} {x} {y} p (z ∷ xs) b = go (p z) (before_kept p xs) b
  where
    go : (t : Bool) → (Before x y (filter p xs) → Before x y xs) → Before x y (cond t (z ∷ filter p xs) (filter p xs)) → Before x y (z ∷ xs)
    go true rest c = elim (before_cons c) [
      | inl q ↦ before-first q.0 (in_kept p xs q.1).0
      | inr d ↦ then (rest d)
    ]
    go false rest c = then (rest c)

-- of two members one stands before the other, or they are the same
pub in_order : {A : Type 0} {x y : A} (xs : List A) → In x xs → In y xs → (x ≡ y) ⊎ (Before x y xs ⊎ Before y x xs)
in_order [] m k = absurd (in_nothing m)
in_order {A} {x} {y} (z ∷ xs) m k = go (in_cons m) (in_cons k) (in_order xs)
  where
    go : (x ≡ z) ⊎ In x xs → (y ≡ z) ⊎ In y xs → (In x xs → In y xs → (x ≡ y) ⊎ (Before x y xs ⊎ Before y x xs)) → (x ≡ y) ⊎ (Before x y (z ∷ xs) ⊎ Before y x (z ∷ xs))
    go (inl e) (inl f) rest = inl (e ∙ sym f)
    go (inl e) (inr j) rest = inr (inl (before-first e j))
    go (inr i) (inl f) rest = inr (inr (before-first f i))
    go (inr i) (inr j) rest = elim (rest i j) [
      | inl e ↦ inl e
      | inr b ↦ elim b [ inl c ↦ inr (inl (then c)) | inr c ↦ inr (inr (then c)) ]
    ]
