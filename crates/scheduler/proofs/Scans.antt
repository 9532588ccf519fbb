-- Searches through the locks, from the front and from the end.
use Rattle.std.proofs.Common.{◌≡◌, ℕ, zero, suc, ◌+◌, ◌<◌, ◌≤◌, Bool, true, false, cond, ◌&&◌, ◌||◌, eqb, List, [], ◌∷◌, ◌++◌, length, get_or, take, drop, sym, refl, ap, ◌∙◌, subst, inl, inr}
use Rattle.std.proofs.lemmas.List.{append_assoc, at_drop_all, at_drop_more, take-append-drop}
use Rattle.std.proofs.Math.Seq.{drop-append_seam, take-append_seam}
use Rattle.std.proofs.lemmas.Bool.{and_left, and_right, both_ways, cases_Bool, cases_eq, cond-false, cond-true, eq-eqb, ne_eqb, or_left}
use Rattle.scheduler.specs.declared.lock.Kind.{Kind}
use Rattle.scheduler.specs.declared.lock.Kind.TheVariants.{Write}
use Rattle.scheduler.specs.declared.lock.Lock.{Lock}
use Rattle.scheduler.specs.Orders.{no_lock}
use Rattle.scheduler.specs.Blockers.{Rule, In, ahead, barring, bars, first, later, reads_beside}
use Rattle.scheduler.specs.Ledger.{holds, is_lock, same_kind}
use Rattle.scheduler.proofs.Locks.{is_lock_eq}

module _ (t x : ℕ) (k : Kind) (ls : List Lock) (i : ℕ) where
  pub holds_past : i < length ls → is_lock t x k (get_or ls i no_lock) ≡ false → holds t x k (drop (i + 1) ls) ≡ holds t x k (drop i ls)
  holds_past l e = sym (at_drop_more (holds t x k) ls i no_lock l ∙ ap (λ (b : Bool). b || holds t x k (drop (i + 1) ls)) e)

  pub holds-here : i < length ls → is_lock t x k (get_or ls i no_lock) ≡ true → holds t x k (drop i ls) ≡ true
  holds-here l e = at_drop_more (holds t x k) ls i no_lock l ∙ or_left (is_lock t x k (get_or ls i no_lock)) (holds t x k (drop (i + 1) ls)) e

  pub holds_end : length ls ≤ i → holds t x k (drop i ls) ≡ false
  holds_end l = at_drop_all (holds t x k) ls i l

module _ (ok : Rule) (t x : ℕ) (k : Kind) (ls : List Lock) (i : ℕ) where
  pub barring_past : i < length ls → bars ok t x k (get_or ls i no_lock) ≡ false → barring ok t x k (drop (i + 1) ls) ≡ barring ok t x k (drop i ls)
  barring_past l e = sym (at_drop_more (barring ok t x k) ls i no_lock l ∙ cond-false _ _ _ e)

  pub barring-here : i < length ls → bars ok t x k (get_or ls i no_lock) ≡ true → In (get_or ls i no_lock).owner (barring ok t x k (drop i ls))
  barring-here l e = subst (λ (bs : List ℕ). In (get_or ls i no_lock).owner bs) (sym (at_drop_more (barring ok t x k) ls i no_lock l ∙ cond-true _ _ _ e)) first

  pub barring_end : length ls ≤ i → barring ok t x k (drop i ls) ≡ []
  barring_end l = at_drop_all (barring ok t x k) ls i l

-- the last lock of a front is the first of what stands behind the rest of it
module _ (ls old new : List Lock) (x : Lock) (front : old ≡ take (length old) ls) (last : old ≡ new ++ x ∷ []) where
  whole : ls ≡ new ++ (x ∷ drop (length old) ls)
  whole = sym (take-append-drop (length old) ls) ∙ ap (λ (f : List Lock). f ++ drop (length old) ls) (sym front ∙ last) ∙ append_assoc new (x ∷ []) (drop (length old) ls)

  pub front-less : new ≡ take (length new) ls
  front-less = sym (ap (take (length new)) whole ∙ take-append_seam new (x ∷ drop (length old) ls))

  pub back-more : drop (length new) ls ≡ x ∷ drop (length old) ls
  back-more = ap (drop (length new)) whole ∙ drop-append_seam new (x ∷ drop (length old) ls)

-- a lock's item is its own
pub is_write_of : (t x : ℕ) (l : Lock) → is_lock t l.item Write l ≡ true → is_lock t x Write l ≡ eqb l.item x
is_write_of t x l e = elim (cases_eq l.item x) [
  | inl q ↦ subst (λ (n : ℕ). is_lock t n Write l ≡ true) q e ∙ sym (eq-eqb l.item x q)
  | inr n ↦ and_right (eqb l.owner t) (eqb l.item x && same_kind l.kind Write) (and_left (eqb l.item x) (same_kind l.kind Write) (ne_eqb l.item x n)) ∙ sym (ne_eqb l.item x n)
]

pub no_write_of : (t x : ℕ) (l : Lock) → is_lock t l.item Write l ≡ false → is_lock t x Write l ≡ false
no_write_of t x l e = elim (cases_Bool (is_lock t x Write l)) [
  | inr q ↦ q
  | inl q ↦ absurd (both_ways (is_lock t l.item Write l) e (subst (λ (n : ℕ). is_lock t n Write l ≡ true) (sym (ap (λ (y : Lock). y.item) (is_lock_eq t x Write l q))) q))
]

pub or_swap : (a b : Bool) → (a || b) ≡ (b || a)
or_swap true true = refl
or_swap true false = refl
or_swap false true = refl
or_swap false false = refl

-- what is at the back of the list stays in the whole of it
pub ahead-later : (t : ℕ) (ls : List Lock) (n u : ℕ) → In u (ahead t (drop n ls)) → In u (ahead t ls)
ahead-later t ls zero u m = m
ahead-later t [] (suc n) u m = m
ahead-later t (l ∷ ls) (suc n) u m = go (reads_beside t l && holds t l.item Write ls) (ahead-later t ls n u m)
  where
    go : (b : Bool) → In u (ahead t ls) → In u (cond b (l.owner ∷ ahead t ls) (ahead t ls))
    go true k = later k
    go false k = k
