-- Who blocks whom after each change of the locks.
use Rattle.std.proofs.Common.{◌≡◌, ℕ, Bool, true, false, cond, not, ◌&&◌, eqb, ◌⊎◌, List, [], ◌∷◌, ◌++◌, sym, refl, ap, ◌∙◌, subst, inl, inr}
use Rattle.std.proofs.lemmas.Bool.{eq-eqb, ne_eqb, eqb-false, both_ways, and_parts, and_from, cond-false, not_from_false, not-true}
use Rattle.scheduler.specs.declared.lock.Kind.{Kind}
use Rattle.scheduler.specs.declared.lock.Kind.TheVariants.{Read, Write}
use Rattle.scheduler.specs.declared.lock.Lock.{Lock}
use Rattle.scheduler.specs.declared.transaction.Ask.{Ask}
use Rattle.scheduler.specs.declared.transaction.Ask.TheVariants.{Read as ask_read, Write as ask_write, Commit as ask_commit}
use Rattle.scheduler.specs.Ledger.{lock, same_kind, holds, unlocked}
use Rattle.scheduler.specs.Blockers.{Rule, In, first, later, bars, barring, reads_beside, ahead, blockers}
use Rattle.scheduler.proofs.Members.{in_cons, in_nothing, in_first, in_kept, in_push, Before, before_cons, before-nothing}
use Rattle.scheduler.proofs.Locks.{holds-push_other, holds-unlocked, in_holds}

module _ (ok : Rule) (t i : ℕ) (k : Kind) where
  -- a holder of a barring lock is a blocker, and only such a one
  pub barring_in : (ls : List Lock) (l : Lock) → In l ls → bars ok t i k l ≡ true → In l.owner (barring ok t i k ls)
  barring_in [] l m h = absurd (in_nothing m)
  barring_in (x ∷ ls) l m h = go (bars ok t i k x) refl (barring_in ls l) (in_cons m)
    where
      go : (b : Bool) → bars ok t i k x ≡ b → (In l ls → bars ok t i k l ≡ true → In l.owner (barring ok t i k ls)) → (l ≡ x) ⊎ In l ls → In l.owner (cond b (x.owner ∷ barring ok t i k ls) (barring ok t i k ls))
      go true e rest (inl q) = in_first (ap (λ (y : Lock). y.owner) q)
      go true e rest (inr j) = later (rest j h)
      go false e rest (inl q) = absurd (both_ways (bars ok t i k x) e (ap (bars ok t i k) (sym q) ∙ h))
      go false e rest (inr j) = rest j h

  pub in_barring : (u : ℕ) (ls : List Lock) → In u (barring ok t i k ls) → (l : Lock) × In l ls × (bars ok t i k l ≡ true) × (u ≡ l.owner)
  in_barring u [] m = absurd (in_nothing m)
  in_barring u (x ∷ ls) m = go (bars ok t i k x) refl (in_barring u ls) m
    where
      go : (b : Bool) → bars ok t i k x ≡ b → (In u (barring ok t i k ls) → (l : Lock) × In l ls × (bars ok t i k l ≡ true) × (u ≡ l.owner)) → In u (cond b (x.owner ∷ barring ok t i k ls) (barring ok t i k ls)) → (l : Lock) × In l (x ∷ ls) × (bars ok t i k l ≡ true) × (u ≡ l.owner)
      go true e rest j = elim (in_cons j) [
        | inl q ↦ (x, first, e, q)
        | inr j' ↦ let r = rest j' in (r.0, later r.1, r.2, r.3)
      ]
      go false e rest j = let r = rest j in (r.0, later r.1, r.2, r.3)

  -- a barring lock is another's
  pub bars_other : (l : Lock) → bars ok t i k l ≡ true → l.owner ≡ t → ⊥
  bars_other l h e = eqb-false l.owner t (not-true (eqb l.owner t) (and_parts (not (eqb l.owner t)) (eqb l.item i && not (ok k l.kind)) h).0) e

  pub bars_from : (l : Lock) → (l.owner ≡ t → ⊥) → l.item ≡ i → ok k l.kind ≡ false → bars ok t i k l ≡ true
  bars_from l n e h =
      and_from (not (eqb l.owner t)) (eqb l.item i && not (ok k l.kind)) (not_from_false (eqb l.owner t) (ne_eqb l.owner t n))
      (and_from (eqb l.item i) (not (ok k l.kind)) (eq-eqb l.item i e) (not_from_false (ok k l.kind) h))

-- read locks of others that stand before t's write lock on the same item
pub ahead_in : (t : ℕ) (ls : List Lock) (l m : Lock) → Before l m ls → (l.owner ≡ t → ⊥) → l.kind ≡ Read → m ≡ lock t l.item Write → In l.owner (ahead t ls)
ahead_in t [] l m b n r w = absurd (before-nothing b)
ahead_in t (x ∷ ls) l m b n r w = go (reads_beside t x && holds t x.item Write ls) refl (before_cons b) (ahead_in t ls l m)
  where
    test : l ≡ x → In m ls → (reads_beside t x && holds t x.item Write ls) ≡ true
    test e j =
        subst (λ (y : Lock). (reads_beside t y && holds t y.item Write ls) ≡ true) e
        (and_from (reads_beside t l) (holds t l.item Write ls)
        (and_from (not (eqb l.owner t)) (same_kind l.kind Read) (not_from_false (eqb l.owner t) (ne_eqb l.owner t n)) (ap (λ (k : Kind). same_kind k Read) r))
        (in_holds t l.item Write ls (subst (λ (y : Lock). In y ls) w j)))

    go : (c : Bool) → (reads_beside t x && holds t x.item Write ls) ≡ c → ((l ≡ x) × In m ls) ⊎ Before l m ls → (Before l m ls → (l.owner ≡ t → ⊥) → l.kind ≡ Read → m ≡ lock t l.item Write → In l.owner (ahead t ls)) → In l.owner (cond c (x.owner ∷ ahead t ls) (ahead t ls))
    go true e (inl p) rest = in_first (ap (λ (y : Lock). y.owner) p.0)
    go true e (inr d) rest = later (rest d n r w)
    go false e (inl p) rest = absurd (both_ways (reads_beside t x && holds t x.item Write ls) e (test p.0 p.1))
    go false e (inr d) rest = rest d n r w

-- a lock of another at the end changes nobody's place
pub ahead-push : (u : ℕ) (ls : List Lock) (l : Lock) → (l.owner ≡ u → ⊥) → ahead u (ls ++ l ∷ []) ≡ ahead u ls
ahead-push u [] l n = cond-false _ _ _ (go (reads_beside u l))
  where
    go : (b : Bool) → (b && false) ≡ false
    go true = refl
    go false = refl
ahead-push u (x ∷ ls) l n =
    ap (λ (b : Bool). cond (reads_beside u x && b) (x.owner ∷ ahead u (ls ++ l ∷ [])) (ahead u (ls ++ l ∷ []))) (holds-push_other u x.item Write ls l n)
    ∙ ap (λ (r : List ℕ). cond (reads_beside u x && holds u x.item Write ls) (x.owner ∷ r) r) (ahead-push u ls l n)

pub ahead-unlocked : (u t v : ℕ) (ls : List Lock) → (u ≡ t → ⊥) → In v (ahead u (unlocked t ls)) → In v (ahead u ls)
ahead-unlocked u t v [] n m = m
ahead-unlocked u t v (x ∷ ls) n m = go (eqb x.owner t) (ahead-unlocked u t v ls n) m
  where
    skip : (b : Bool) → In v (ahead u ls) → In v (cond b (x.owner ∷ ahead u ls) (ahead u ls))
    skip true j = later j
    skip false j = j

    both : (b : Bool) → (In v (ahead u (unlocked t ls)) → In v (ahead u ls)) → In v (cond b (x.owner ∷ ahead u (unlocked t ls)) (ahead u (unlocked t ls))) → In v (cond b (x.owner ∷ ahead u ls) (ahead u ls))
    both true rest j = elim (in_cons j) [ inl e ↦ in_first e | inr j' ↦ later (rest j') ]
    both false rest j = rest j

    go : (b : Bool) → (In v (ahead u (unlocked t ls)) → In v (ahead u ls)) → In v (ahead u (cond (not b) (x ∷ unlocked t ls) (unlocked t ls))) → In v (ahead u (x ∷ ls))
    go true rest j = skip (reads_beside u x && holds u x.item Write ls) (rest j)
    go false rest j =
        both (reads_beside u x && holds u x.item Write ls) rest
        (subst (λ (b : Bool). In v (cond (reads_beside u x && b) (x.owner ∷ ahead u (unlocked t ls)) (ahead u (unlocked t ls)))) (holds-unlocked u t x.item Write ls n) j)

pub barring-push : (ok : Rule) (u i v : ℕ) (k : Kind) (ls : List Lock) (l : Lock) → In v (barring ok u i k (ls ++ l ∷ [])) → (v ≡ l.owner) ⊎ In v (barring ok u i k ls)
barring-push ok u i v k ls l m =
    let r = in_barring ok u i k v (ls ++ l ∷ []) m in
    elim (in_push ls l r.1) [
      | inl j ↦ inr (subst (λ (w : ℕ). In w (barring ok u i k ls)) (sym r.3) (barring_in ok u i k ls r.0 j r.2))
      | inr e ↦ inl (r.3 ∙ ap (λ (y : Lock). y.owner) e)
    ]

pub barring-unlocked : (ok : Rule) (u i t v : ℕ) (k : Kind) (ls : List Lock) → In v (barring ok u i k (unlocked t ls)) → In v (barring ok u i k ls)
barring-unlocked ok u i t v k ls m =
    let r = in_barring ok u i k v (unlocked t ls) m in
    let j = in_kept (λ (l : Lock). not (eqb l.owner t)) ls r.1 in
    subst (λ (w : ℕ). In w (barring ok u i k ls)) (sym r.3) (barring_in ok u i k ls r.0 j.0 r.2)

-- a new lock at the end blocks others only for its owner
pub blockers-push : (ok : Rule) (u v : ℕ) (ls : List Lock) (l : Lock) (a : Ask) → (l.owner ≡ u → ⊥) → In v (blockers ok (ls ++ l ∷ []) u a) → (v ≡ l.owner) ⊎ In v (blockers ok ls u a)
blockers-push ok u v ls l (ask_read i) n m =
    go (holds u i Write ls) (subst (λ (b : Bool). In v (cond b [] (barring ok u i Read (ls ++ l ∷ [])))) (holds-push_other u i Write ls l n) m)
  where
    go : (b : Bool) → In v (cond b [] (barring ok u i Read (ls ++ l ∷ []))) → (v ≡ l.owner) ⊎ In v (cond b [] (barring ok u i Read ls))
    go true j = absurd (in_nothing j)
    go false j = barring-push ok u i v Read ls l j
blockers-push ok u v ls l (ask_write i x) n m = barring-push ok u i v Write ls l m
blockers-push ok u v ls l ask_commit n m = inr (subst (λ (r : List ℕ). In v r) (ahead-push u ls l n) m)

-- where a transaction's locks are gone, nobody is blocked that was not
pub blockers-unlocked : (ok : Rule) (u t v : ℕ) (ls : List Lock) (a : Ask) → (u ≡ t → ⊥) → In v (blockers ok (unlocked t ls) u a) → In v (blockers ok ls u a)
blockers-unlocked ok u t v ls (ask_read i) n m =
    go (holds u i Write ls) (subst (λ (b : Bool). In v (cond b [] (barring ok u i Read (unlocked t ls)))) (holds-unlocked u t i Write ls n) m)
  where
    go : (b : Bool) → In v (cond b [] (barring ok u i Read (unlocked t ls))) → In v (cond b [] (barring ok u i Read ls))
    go true j = absurd (in_nothing j)
    go false j = barring-unlocked ok u i t v Read ls j
blockers-unlocked ok u t v ls (ask_write i x) n m = barring-unlocked ok u i t v Write ls m
blockers-unlocked ok u t v ls ask_commit n m = ahead-unlocked u t v ls n m

-- a blocker holds a lock
pub ahead_holder : (u v : ℕ) (ls : List Lock) → In v (ahead u ls) → (l : Lock) × In l ls × (v ≡ l.owner)
ahead_holder u v [] m = absurd (in_nothing m)
ahead_holder u v (x ∷ ls) m = go (reads_beside u x && holds u x.item Write ls) (ahead_holder u v ls) m
  where
    go : (b : Bool) → (In v (ahead u ls) → (l : Lock) × In l ls × (v ≡ l.owner)) → In v (cond b (x.owner ∷ ahead u ls) (ahead u ls)) → (l : Lock) × In l (x ∷ ls) × (v ≡ l.owner)
    go true rest j = elim (in_cons j) [ inl e ↦ (x, first, e) | inr j' ↦ let r = rest j' in (r.0, later r.1, r.2) ]
    go false rest j = let r = rest j in (r.0, later r.1, r.2)

pub blocker-holds : (ok : Rule) (u v : ℕ) (ls : List Lock) (a : Ask) → In v (blockers ok ls u a) → (l : Lock) × In l ls × (v ≡ l.owner)
blocker-holds ok u v ls (ask_read i) m = go (holds u i Write ls) m
  where
    go : (b : Bool) → In v (cond b [] (barring ok u i Read ls)) → (l : Lock) × In l ls × (v ≡ l.owner)
    go true j = absurd (in_nothing j)
    go false j = let r = in_barring ok u i Read v ls j in (r.0, r.1, r.3)
blocker-holds ok u v ls (ask_write i x) m = let r = in_barring ok u i Write v ls m in (r.0, r.1, r.3)
blocker-holds ok u v ls ask_commit m = ahead_holder u v ls m

pub nothing_in : {A : Type 0} {x : A} {xs : List A} → xs ≡ [] → In x xs → ⊥
nothing_in {A} {x} e m = in_nothing (subst (λ (ys : List A). In x ys) e m)

-- where a read of t is not blocked and t has no write lock, no other has one
pub no_writer : (ok : Rule) → ok Read Write ≡ false → (t i : ℕ) (ls : List Lock) → blockers ok ls t (ask_read i) ≡ [] → holds t i Write ls ≡ false → (l : Lock) → In l ls → l.kind ≡ Write → l.item ≡ i → (l.owner ≡ t → ⊥) → ⊥
no_writer ok law t i ls free w l m k e n =
    nothing_in (sym (cond-false _ _ _ w) ∙ free)
    (barring_in ok t i Read ls l m (bars_from ok t i Read l n e (ap (ok Read) k ∙ law)))
