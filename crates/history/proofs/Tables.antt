-- What holds of the ledger at all times, and that each answer keeps it.
use Rattle.std.proofs.Common.{◌≡◌, ℕ, ◌+◌, ◌≤◌, Bool, true, false, cond, not, ◌||◌, eqb, ◌⊎◌, List, [], ◌∷◌, ◌++◌, ℤ, is_some, Some, None, Ok, Err, Option, sym, refl, ap, ◌∙◌, subst, inl, inr, arith}
use Rattle.std.proofs.lemmas.Bool.{both_ways, cases_eq, eqb-false, not-true, or_parts}
use Rattle.records.specs.declared.request.Request.{Request}
use Rattle.store.specs.Meaning.{Writes}
use Rattle.scheduler.specs.declared.lock.Kind.TheVariants.{Read, Write}
use Rattle.scheduler.specs.declared.lock.Lock.{Lock}
use Rattle.scheduler.specs.declared.transaction.Ask.{Ask}
use Rattle.scheduler.specs.declared.transaction.Ask.TheVariants.{Read as ask_read}
use Rattle.scheduler.specs.declared.transaction.State.{State}
use Rattle.scheduler.specs.declared.transaction.State.TheVariants.{Active, Waiting}
use Rattle.scheduler.specs.declared.transaction.Transaction.{Transaction}
use Rattle.scheduler.specs.declared.reply.Reply.TheVariants.{Opened, Value, Written, Committed, Aborted, Wait, Deadlock}
use Rattle.scheduler.specs.Ledger.{Ledger, Answer, lock, holds, with_read, with_write, transaction, state_of, restated, closed, waiting, asked, struck, feed, empty}
use Rattle.scheduler.specs.Blockers.{Rule, In, blockers}
use Rattle.scheduler.proofs.Members.{in_nothing, in_push, in_kept, Before, before-nothing, before-push, before_kept}
use Rattle.scheduler.proofs.Opens.{opens-more, restated_same, restated_other, closed_same, closed_other}
use Rattle.scheduler.proofs.Blocking.{no_writer}
use Rattle.history.proofs.Facts.{Facts, IsOpen}

pub record Kept (L : Ledger) : Type 0 where
  -- locks belong to open transactions
  pub owned : (l : Lock) → In l L.locks → IsOpen L l.owner
  -- no read lock stands behind another transaction's write lock on one item
  pub calm : (l m : Lock) → Before l m L.locks → l.kind ≡ Write → m.kind ≡ Read → l.item ≡ m.item → l.owner ≡ m.owner
  pub numbered : (t : ℕ) → IsOpen L t → t ≤ L.begins

pub kept_empty : Kept empty
kept_empty = record {
  owned = λ l m. absurd (in_nothing m);
  calm = λ l m b. absurd (before-nothing b);
  numbered = λ t e. absurd (both_ways false refl e);
}

pub read≢write : Read ≡ Write → ⊥
read≢write e = let z : ◌≡◌ {A = ℕ} 0 1 = cc in omega arith

pub none≢some : {A : Type 0} {x : A} → None ≡ Some x → ⊥
none≢some e = let z : ◌≡◌ {A = ℕ} 0 1 = cc in omega arith

pub is_none : {A : Type 0} (o : Option A) → (is_some o ≡ true → ⊥) → o ≡ None
is_none None n = refl
is_none (Some x) n = absurd (n refl)

pub none_shut : {A : Type 0} {o : Option A} → o ≡ None → is_some o ≡ true → ⊥
none_shut {A} {o} e h = both_ways false refl (ap is_some (sym e) ∙ h)

-- who is open after each change
pub open-restated : (u t : ℕ) (s : State) (os : List Transaction) → is_some (state_of t os) ≡ true → is_some (state_of u (restated t s os)) ≡ is_some (state_of u os)
open-restated u t s os h = elim (cases_eq u t) [
  | inl e ↦ subst (λ (w : ℕ). is_some (state_of w (restated t s os)) ≡ is_some (state_of w os)) (sym e) (ap is_some (restated_same t s os h) ∙ sym h)
  | inr n ↦ ap is_some (restated_other u t s os n)
]

pub open-waiting : (u t : ℕ) (a : Option Ask) (os : List Transaction) → is_some (state_of t os) ≡ true → is_some (state_of u (waiting a t os)) ≡ is_some (state_of u os)
open-waiting u t None os h = refl
open-waiting u t (Some a) os h = open-restated u t (Waiting a) os h

pub open-closed : (u t : ℕ) (os : List Transaction) → is_some (state_of u (closed t os)) ≡ true → (u ≡ t → ⊥) × (is_some (state_of u os) ≡ true)
open-closed u t os h = (ne, ap is_some (sym (closed_other u t os ne)) ∙ h)
  where
    ne : u ≡ t → ⊥
    ne e = none_shut (subst (λ (w : ℕ). state_of w (closed t os) ≡ None) (sym e) (closed_same t os)) h

pub closed-open : (u t : ℕ) (os : List Transaction) → (u ≡ t → ⊥) → is_some (state_of u os) ≡ true → is_some (state_of u (closed t os)) ≡ true
closed-open u t os n h = ap is_some (closed_other u t os n) ∙ h

pub open_more : (u t : ℕ) (s : State) (os : List Transaction) → is_some (state_of u os) ≡ true → (u ≡ t → ⊥) → is_some (state_of u (os ++ transaction t s ∷ [])) ≡ true
open_more u t s os h n = ap is_some (opens-more u t s os n) ∙ h

pub more-open : (u t : ℕ) (s : State) (os : List Transaction) → is_some (state_of u (os ++ transaction t s ∷ [])) ≡ true → (u ≡ t) ⊎ (is_some (state_of u os) ≡ true)
more-open u t s os h = elim (cases_eq u t) [ inl e ↦ inl e | inr n ↦ inr (ap is_some (sym (opens-more u t s os n)) ∙ h) ]

-- a lock that the list has, or the new one at its end
module _ (t i : ℕ) (ls : List Lock) where
  pub in_with_read : (l : Lock) → In l (with_read t i ls) → In l ls ⊎ (l ≡ lock t i Read)
  in_with_read l = go (holds t i Read ls || holds t i Write ls)
    where
      go : (b : Bool) → In l (cond b ls (ls ++ lock t i Read ∷ [])) → In l ls ⊎ (l ≡ lock t i Read)
      go true m = inl m
      go false m = in_push ls (lock t i Read) m

  pub in_with_write : (l : Lock) → In l (with_write t i ls) → In l ls ⊎ (l ≡ lock t i Write)
  in_with_write l = go (holds t i Write ls)
    where
      go : (b : Bool) → In l (cond b ls (ls ++ lock t i Write ∷ [])) → In l ls ⊎ (l ≡ lock t i Write)
      go true m = inl m
      go false m = in_push ls (lock t i Write) m

  -- the new read lock comes only where t has no write lock
  pub before-with_read : (l m : Lock) → Before l m (with_read t i ls) → Before l m ls ⊎ (In l ls × (m ≡ lock t i Read) × (holds t i Write ls ≡ false))
  before-with_read l m = go (holds t i Read ls || holds t i Write ls) refl
    where
      go : (b : Bool) → (holds t i Read ls || holds t i Write ls) ≡ b → Before l m (cond b ls (ls ++ lock t i Read ∷ [])) → Before l m ls ⊎ (In l ls × (m ≡ lock t i Read) × (holds t i Write ls ≡ false))
      go true e b = inl b
      go false e b = elim (before-push ls (lock t i Read) b) [
        | inl c ↦ inl c
        | inr p ↦ inr (p.0, p.1, (or_parts (holds t i Read ls) (holds t i Write ls) e).1)
      ]

  pub before-with_write : (l m : Lock) → Before l m (with_write t i ls) → Before l m ls ⊎ (In l ls × (m ≡ lock t i Write))
  before-with_write l m = go (holds t i Write ls)
    where
      go : (b : Bool) → Before l m (cond b ls (ls ++ lock t i Write ∷ [])) → Before l m ls ⊎ (In l ls × (m ≡ lock t i Write))
      go true b = inl b
      go false b = before-push ls (lock t i Write) b

module _ (ok : Rule) (law : ok Read Write ≡ false) (L : Ledger) (K : Kept L) where
  opened_kept : (t : ℕ) → t ≡ L.begins + 1 → (q : Request) → Kept (feed L q (Ok (Opened t)))
  opened_kept t e q = record {
    owned = λ l m. open_more l.owner t Active L.opens (K.owned l m) (λ x. let h = K.numbered l.owner (K.owned l m) in omega arith);
    calm = K.calm;
    numbered = λ u h. elim (more-open u t Active L.opens h) [ inl x ↦ omega arith | inr o ↦ let k = K.numbered u o in omega arith ];
  }

  value_kept : (t i : ℕ) (v : ℤ) (q : Request) → IsOpen L t → blockers ok L.locks t (ask_read i) ≡ [] → Kept (feed L q (Ok (Value t i v)))
  value_kept t i v q o free = record {
    owned = λ l m. open-restated l.owner t Active L.opens o ∙ (elim (in_with_read t i L.locks l m) [ inl j ↦ K.owned l j | inr e ↦ subst (λ (x : Lock). IsOpen L x.owner) (sym e) o ]);
    calm = λ l m b w r e. elim (before-with_read t i L.locks l m b) [
      | inl c ↦ K.calm l m c w r e
      | inr p ↦ elim (cases_eq l.owner t) [
        | inl x ↦ x ∙ ap (λ (y : Lock). y.owner) (sym p.1)
        | inr n ↦ absurd (no_writer ok law t i L.locks free p.2 l p.0 w (e ∙ ap (λ (y : Lock). y.item) p.1) n)
      ]
    ];
    numbered = λ u h. K.numbered u (sym (open-restated u t Active L.opens o) ∙ h);
  }

  written_kept : (t i : ℕ) (q : Request) → IsOpen L t → Kept (feed L q (Ok (Written t i)))
  written_kept t i q o = record {
    owned = λ l m. open-restated l.owner t Active L.opens o ∙ (elim (in_with_write t i L.locks l m) [ inl j ↦ K.owned l j | inr e ↦ subst (λ (x : Lock). IsOpen L x.owner) (sym e) o ]);
    calm = λ l m b w r e. elim (before-with_write t i L.locks l m b) [
      | inl c ↦ K.calm l m c w r e
      | inr p ↦ absurd (read≢write (sym r ∙ ap (λ (y : Lock). y.kind) p.1))
    ];
    numbered = λ u h. K.numbered u (sym (open-restated u t Active L.opens o) ∙ h);
  }

  struck_kept : (t : ℕ) → Kept (struck t L)
  struck_kept t = record {
    owned = λ l m. let j = in_kept (λ (x : Lock). not (eqb x.owner t)) L.locks m in closed-open l.owner t L.opens (eqb-false l.owner t (not-true (eqb l.owner t) j.1)) (K.owned l j.0);
    calm = λ l m b. K.calm l m (before_kept (λ (x : Lock). not (eqb x.owner t)) L.locks b);
    numbered = λ u h. K.numbered u (open-closed u t L.opens h).1;
  }

  waits_kept : (t b : ℕ) (q : Request) → IsOpen L t → Kept (feed L q (Ok (Wait t b)))
  waits_kept t b q o = record {
    owned = λ l m. open-waiting l.owner t (asked L q) L.opens o ∙ K.owned l m;
    calm = K.calm;
    numbered = λ u h. K.numbered u (sym (open-waiting u t (asked L q) L.opens o) ∙ h);
  }

  pub kept_next : (cs : List ℤ) (p : Writes) (q : Request) (a : Answer) → Facts ok L cs p q a → Kept (feed L q a)
  kept_next cs p q (Ok (Opened t)) f = opened_kept t f q
  kept_next cs p q (Ok (Value t i v)) f = value_kept t i v q f.0 f.1
  kept_next cs p q (Ok (Written t i)) f = written_kept t i q f.0
  kept_next cs p q (Ok (Committed t)) f = struck_kept t
  kept_next cs p q (Ok (Aborted t)) f = struck_kept t
  kept_next cs p q (Ok (Wait t b)) f = waits_kept t b q f.0
  kept_next cs p q (Ok (Deadlock t)) f = struck_kept t
  kept_next cs p q (Err e) f = K
