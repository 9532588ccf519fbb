-- Who holds which lock after each change of the locks.
use Rattle.std.proofs.Common.{◌≡◌, ℕ, Bool, true, false, cond, not, ◌&&◌, ◌||◌, eqb, List, [], ◌∷◌, ◌++◌, sym, refl, ap, ◌∙◌, inl, inr}
use Rattle.std.proofs.lemmas.Bool.{eq-eqb, ne_eqb, eqb-true, both_ways, and_parts, and_from, and_left, or_cases, or_left, or_right, or_from}
use Rattle.scheduler.specs.declared.lock.Kind.{Kind}
use Rattle.scheduler.specs.declared.lock.Kind.TheVariants.{Read, Write}
use Rattle.scheduler.specs.declared.lock.Lock.{Lock}
use Rattle.scheduler.specs.Ledger.{lock, same_kind, is_lock, holds, unlocked}
use Rattle.scheduler.specs.Blockers.{In, later}
use Rattle.scheduler.proofs.Members.{in_cons, in_nothing, in_first}

pub same_kind-refl : (k : Kind) → same_kind k k ≡ true
same_kind-refl Read = refl
same_kind-refl Write = refl

pub same_kind_eq : (j k : Kind) → same_kind j k ≡ true → j ≡ k
same_kind_eq Read Read e = refl
same_kind_eq Read Write e = absurd (both_ways false refl e)
same_kind_eq Write Read e = absurd (both_ways false refl e)
same_kind_eq Write Write e = refl

pub lock_eq : {t u i j : ℕ} {k m : Kind} → t ≡ u → i ≡ j → k ≡ m → lock t i k ≡ lock u j m
lock_eq a b c = cc

pub is_lock_eq : (t i : ℕ) (k : Kind) (l : Lock) → is_lock t i k l ≡ true → l ≡ lock t i k
is_lock_eq t i k l e =
    let p = and_parts (eqb l.owner t) (eqb l.item i && same_kind l.kind k) e in
    let q = and_parts (eqb l.item i) (same_kind l.kind k) p.1 in
    lock_eq (eqb-true l.owner t p.0) (eqb-true l.item i q.0) (same_kind_eq l.kind k q.1)

pub is_lock_self : (t i : ℕ) (k : Kind) → is_lock t i k (lock t i k) ≡ true
is_lock_self t i k = and_from (eqb t t) (eqb i i && same_kind k k) (eq-eqb t t refl) (and_from (eqb i i) (same_kind k k) (eq-eqb i i refl) (same_kind-refl k))

pub is_lock_other : (t i : ℕ) (k : Kind) (l : Lock) → (l.owner ≡ t → ⊥) → is_lock t i k l ≡ false
is_lock_other t i k l n = and_left (eqb l.owner t) (eqb l.item i && same_kind l.kind k) (ne_eqb l.owner t n)

pub holds_in : (t i : ℕ) (k : Kind) (ls : List Lock) → holds t i k ls ≡ true → In (lock t i k) ls
holds_in t i k [] e = absurd (both_ways false refl e)
holds_in t i k (l ∷ ls) e = elim (or_cases (is_lock t i k l) (holds t i k ls) e) [
  | inl q ↦ in_first (sym (is_lock_eq t i k l q))
  | inr q ↦ later (holds_in t i k ls q)
]

pub in_holds : (t i : ℕ) (k : Kind) (ls : List Lock) → In (lock t i k) ls → holds t i k ls ≡ true
in_holds t i k [] m = absurd (in_nothing m)
in_holds t i k (l ∷ ls) m = elim (in_cons m) [
  | inl e ↦ or_left (is_lock t i k l) (holds t i k ls) (ap (is_lock t i k) (sym e) ∙ is_lock_self t i k)
  | inr j ↦ or_right (is_lock t i k l) (holds t i k ls) (in_holds t i k ls j)
]

or_nothing : (x : Bool) → (x || false) ≡ x
or_nothing true = refl
or_nothing false = refl

or_assoc : (x y z : Bool) → (x || (y || z)) ≡ ((x || y) || z)
or_assoc true y z = refl
or_assoc false y z = refl

pub holds-push : (t i : ℕ) (k : Kind) (ls : List Lock) (l : Lock) → holds t i k (ls ++ l ∷ []) ≡ (holds t i k ls || is_lock t i k l)
holds-push t i k [] l = or_nothing (is_lock t i k l)
holds-push t i k (m ∷ ls) l = ap (λ b. is_lock t i k m || b) (holds-push t i k ls l) ∙ or_assoc (is_lock t i k m) (holds t i k ls) (is_lock t i k l)

pub holds-push_other : (t i : ℕ) (k : Kind) (ls : List Lock) (l : Lock) → (l.owner ≡ t → ⊥) → holds t i k (ls ++ l ∷ []) ≡ holds t i k ls
holds-push_other t i k ls l n = holds-push t i k ls l ∙ ap (λ b. holds t i k ls || b) (is_lock_other t i k l n) ∙ or_nothing (holds t i k ls)

pub holds-unlocked : (u t i : ℕ) (k : Kind) (ls : List Lock) → (u ≡ t → ⊥) → holds u i k (unlocked t ls) ≡ holds u i k ls
holds-unlocked u t i k [] n = refl
holds-unlocked u t i k (l ∷ ls) n = go (eqb l.owner t) refl (holds-unlocked u t i k ls n)
  where
    go : (b : Bool) → eqb l.owner t ≡ b → holds u i k (unlocked t ls) ≡ holds u i k ls → holds u i k (cond (not b) (l ∷ unlocked t ls) (unlocked t ls)) ≡ holds u i k (l ∷ ls)
    go true e rest = rest ∙ ap (λ b. b || holds u i k ls) (sym (is_lock_other u i k l (λ q. n (sym q ∙ eqb-true l.owner t e))))
    go false e rest = ap (λ b. is_lock u i k l || b) rest

pub holds-unlocked_same : (t i : ℕ) (k : Kind) (ls : List Lock) → holds t i k (unlocked t ls) ≡ false
holds-unlocked_same t i k [] = refl
holds-unlocked_same t i k (l ∷ ls) = go (eqb l.owner t) refl (holds-unlocked_same t i k ls)
  where
    go : (b : Bool) → eqb l.owner t ≡ b → holds t i k (unlocked t ls) ≡ false → holds t i k (cond (not b) (l ∷ unlocked t ls) (unlocked t ls)) ≡ false
    go true e rest = rest
    go false e rest = or_from (is_lock t i k l) (holds t i k (unlocked t ls)) (is_lock_other t i k l (λ q. both_ways (eqb l.owner t) e (eq-eqb l.owner t q))) rest
