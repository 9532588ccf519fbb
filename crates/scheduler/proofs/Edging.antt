-- The tests on the locks say who blocks whom.
use Rattle.std.proofs.Common.{◌≡◌, ℕ, suc, ◌<◌, Bool, true, false, cond, not, ◌&&◌, eqb, List, [], ◌∷◌, length, Some, sym, refl, ap, ◌∙◌, subst, inl, inr, arith}
use Rattle.std.proofs.lemmas.Bool.{and_from, and_parts, both_ways, cases_order, cond-false, eq-eqb, eqb-false, eqb-true, ne_eqb, not_from_false, not-true, or_cases, or_left, or_right}
use Rattle.scheduler.specs.declared.lock.Kind.{Kind}
use Rattle.scheduler.specs.declared.lock.Kind.TheVariants.{Read, Write}
use Rattle.scheduler.specs.declared.lock.Lock.{Lock}
use Rattle.scheduler.specs.declared.transaction.Ask.{Ask}
use Rattle.scheduler.specs.declared.transaction.Ask.TheVariants.{Read as ask_read, Write as ask_write, Commit as ask_commit}
use Rattle.scheduler.specs.declared.transaction.State.{State}
use Rattle.scheduler.specs.declared.transaction.Transaction.{Transaction}
use Rattle.scheduler.specs.Orders.{clashes, clear_of, orderly, rising}
use Rattle.scheduler.specs.Blockers.{In, Rule, ahead, barring, blockers, first, later, reads_beside}
use Rattle.scheduler.specs.Edges.{bars_with, blocks, number_at, reads_written, state_at}
use Rattle.scheduler.specs.Ledger.{holds, is_lock, lock, same_kind, state_of}
use Rattle.scheduler.proofs.Blocking.{ahead_in, barring_in, bars_from, bars_other, in_barring}
use Rattle.scheduler.proofs.Locks.{holds_in, in_holds, is_lock_eq, is_lock_self, lock_eq, same_kind_eq}
use Rattle.scheduler.proofs.Members.{Before, before_cons, before-nothing, in_cons, in_nothing, in_order}
use Rattle.scheduler.proofs.Rising.{rising_order}

-- two locks of an orderly list do not clash
clear_in : (l m : Lock) (ms : List Lock) → clear_of l ms ≡ true → In m ms → clashes l m ≡ false
clear_in l m [] h i = absurd (in_nothing i)
clear_in l m (n ∷ ms) h i =
    let p = and_parts (not (clashes l n)) (clear_of l ms) h in
    elim (in_cons i) [
      | inl e ↦ subst (λ (x : Lock). clashes l x ≡ false) (sym e) (not-true (clashes l n) p.0)
      | inr j ↦ clear_in l m ms p.1 j
    ]

orderly-before : (l m : Lock) (ls : List Lock) → orderly ls ≡ true → Before l m ls → clashes l m ≡ false
orderly-before l m [] h b = absurd (before-nothing b)
orderly-before l m (x ∷ ls) h b =
    let p = and_parts (clear_of x ls) (orderly ls) h in
    elim (before_cons b) [
      | inl e ↦ subst (λ (y : Lock). clashes y m ≡ false) (sym e.0) (clear_in x m ls p.0 e.1)
      | inr c ↦ orderly-before l m ls p.1 c
    ]

-- a read lock behind another's write lock clashes with it
behind : (u t y : ℕ) → (u ≡ t → ⊥) → clashes (lock t y Write) (lock u y Read) ≡ true
behind u t y n =
    and_from (eqb y y) _ (eq-eqb y y refl)
    (or_right (eqb t u && false) (not (eqb t u) && true) (and_from (not (eqb t u)) true (not_from_false (eqb t u) (ne_eqb t u (λ e. n (sym e)))) refl))

module _ (ok : Rule) (ls : List Lock) (u t x : ℕ) (k : Kind) where
  bars_to : (u ≡ t → ⊥) → bars_with ok ls u x k ≡ true → In u (barring ok t x k ls)
  bars_to n h = elim (or_cases (not (ok k Read) && holds u x Read ls) (not (ok k Write) && holds u x Write ls) h) [
    | inl a ↦ let p = and_parts (not (ok k Read)) (holds u x Read ls) a in
        barring_in ok t x k ls (lock u x Read) (holds_in u x Read ls p.1) (bars_from ok t x k (lock u x Read) n refl (not-true (ok k Read) p.0))
    | inr a ↦ let p = and_parts (not (ok k Write)) (holds u x Write ls) a in
        barring_in ok t x k ls (lock u x Write) (holds_in u x Write ls p.1) (bars_from ok t x k (lock u x Write) n refl (not-true (ok k Write) p.0))
  ]

  to_bars : In u (barring ok t x k ls) → (u ≡ t → ⊥) × (bars_with ok ls u x k ≡ true)
  to_bars m =
      let b = in_barring ok t x k u ls m in
      let l = b.0 in
      let q = and_parts (not (eqb l.owner t)) (eqb l.item x && not (ok k l.kind)) b.2 in
      let r = and_parts (eqb l.item x) (not (ok k l.kind)) q.1 in (
        (λ e. bars_other ok t x k l b.2 (sym b.3 ∙ e)),
        by l b.1 (sym b.3) (eqb-true l.item x r.0) r.1,
      )
    where
      by : (l : Lock) → In l ls → l.owner ≡ u → l.item ≡ x → not (ok k l.kind) ≡ true → bars_with ok ls u x k ≡ true
      by l m a b h = go l.kind refl
        where
          same : (i : Kind) → l.kind ≡ i → holds u x i ls ≡ true
          same i e = in_holds u x i ls (subst (λ (y : Lock). In y ls) (lock_eq a b e) m)

          go : (i : Kind) → l.kind ≡ i → bars_with ok ls u x k ≡ true
          go Read e = or_left (not (ok k Read) && holds u x Read ls) (not (ok k Write) && holds u x Write ls) (and_from (not (ok k Read)) (holds u x Read ls) (ap (λ (i : Kind). not (ok k i)) (sym e) ∙ h) (same Read e))
          go Write e = or_right (not (ok k Read) && holds u x Read ls) (not (ok k Write) && holds u x Write ls) (and_from (not (ok k Write)) (holds u x Write ls) (ap (λ (i : Kind). not (ok k i)) (sym e) ∙ h) (same Write e))

-- u reads an item that t writes
written_to : (u t : ℕ) (ls ms : List Lock) → reads_written u t ls ms ≡ true → (y : ℕ) × In (lock t y Write) ms × In (lock u y Read) ls
written_to u t ls [] h = absurd (both_ways false refl h)
written_to u t ls (m ∷ ms) h = elim (or_cases (is_lock t m.item Write m && holds u m.item Read ls) (reads_written u t ls ms) h) [
  | inl a ↦ let p = and_parts (is_lock t m.item Write m) (holds u m.item Read ls) a in
      (m.item, subst (λ (l : Lock). In l (m ∷ ms)) (is_lock_eq t m.item Write m p.0) first, holds_in u m.item Read ls p.1)
  | inr a ↦ let r = written_to u t ls ms a in (r.0, later r.1, r.2)
]

to_written : (u t y : ℕ) (ls ms : List Lock) → In (lock t y Write) ms → In (lock u y Read) ls → reads_written u t ls ms ≡ true
to_written u t y ls [] m r = absurd (in_nothing m)
to_written u t y ls (l ∷ ms) m r = elim (in_cons m) [
  | inl e ↦ or_left (is_lock t l.item Write l && holds u l.item Read ls) (reads_written u t ls ms)
      (subst (λ (n : Lock). (is_lock t n.item Write n && holds u n.item Read ls) ≡ true) e (and_from (is_lock t y Write (lock t y Write)) (holds u y Read ls) (is_lock_self t y Write) (in_holds u y Read ls r)))
  | inr j ↦ or_right (is_lock t l.item Write l && holds u l.item Read ls) (reads_written u t ls ms) (to_written u t y ls ms j r)
]

ahead-lock : (u t : ℕ) (ls : List Lock) → In u (ahead t ls) → (u ≡ t → ⊥) × ((y : ℕ) × In (lock u y Read) ls × In (lock t y Write) ls)
ahead-lock u t [] m = absurd (in_nothing m)
ahead-lock u t (l ∷ ls) m = go (reads_beside t l && holds t l.item Write ls) refl (ahead-lock u t ls) m
  where
    go : (b : Bool) → (reads_beside t l && holds t l.item Write ls) ≡ b → (In u (ahead t ls) → (u ≡ t → ⊥) × ((y : ℕ) × In (lock u y Read) ls × In (lock t y Write) ls)) → In u (cond b (l.owner ∷ ahead t ls) (ahead t ls)) → (u ≡ t → ⊥) × ((y : ℕ) × In (lock u y Read) (l ∷ ls) × In (lock t y Write) (l ∷ ls))
    go true e rest j = elim (in_cons j) [
      | inl q ↦
          let p = and_parts (reads_beside t l) (holds t l.item Write ls) e in
          let r = and_parts (not (eqb l.owner t)) (same_kind l.kind Read) p.0 in (
            (λ d. eqb-false l.owner t (not-true (eqb l.owner t) r.0) (sym q ∙ d)),
            (l.item, subst (λ (n : Lock). In n (l ∷ ls)) (lock_eq (sym q) refl (same_kind_eq l.kind Read r.1)) first, later (holds_in t l.item Write ls p.1)),
          )
      | inr j' ↦ let r = rest j' in (r.0, (r.1.0, later r.1.1, later r.1.2))
    ]
    go false e rest j = let r = rest j in (r.0, (r.1.0, later r.1.1, later r.1.2))

module _ (ok : Rule) (ls : List Lock) (calm : orderly ls ≡ true) (u t : ℕ) where
  pub blocks_to : (a : Ask) → blocks ok ls u t a ≡ true → In u (blockers ok ls t a)
  blocks_to (ask_read x) h =
      let p = and_parts (not (eqb u t)) (not (holds t x Write ls) && bars_with ok ls u x Read) h in
      let q = and_parts (not (holds t x Write ls)) (bars_with ok ls u x Read) p.1 in
      subst (λ (bs : List ℕ). In u bs) (sym (cond-false _ _ _ (not-true (holds t x Write ls) q.0))) (bars_to ok ls u t x Read (eqb-false u t (not-true (eqb u t) p.0)) q.1)
  blocks_to (ask_write x v) h =
      let p = and_parts (not (eqb u t)) (bars_with ok ls u x Write) h in
      bars_to ok ls u t x Write (eqb-false u t (not-true (eqb u t) p.0)) p.1
  blocks_to ask_commit h =
      let p = and_parts (not (eqb u t)) (reads_written u t ls ls) h in
      let n = eqb-false u t (not-true (eqb u t) p.0) in
      let w = written_to u t ls ls p.1 in
      elim (in_order ls w.2 w.1) [
        | inl e ↦ absurd (both_ways (same_kind Write Read) refl (ap (λ (l : Lock). same_kind l.kind Read) (sym e)))
        | inr s ↦ elim s [
          | inl b ↦ ahead_in t ls (lock u w.0 Read) (lock t w.0 Write) b n refl refl
          | inr b ↦ absurd (both_ways (clashes (lock t w.0 Write) (lock u w.0 Read)) (orderly-before (lock t w.0 Write) (lock u w.0 Read) ls calm b) (behind u t w.0 n))
        ]
      ]

  pub to_blocks : (a : Ask) → In u (blockers ok ls t a) → blocks ok ls u t a ≡ true
  to_blocks (ask_read x) m = go (holds t x Write ls) refl m
    where
      go : (b : Bool) → holds t x Write ls ≡ b → In u (cond b [] (barring ok t x Read ls)) → (not (eqb u t) && (not (holds t x Write ls) && bars_with ok ls u x Read)) ≡ true
      go true e k = absurd (in_nothing k)
      go false e k =
          let r = to_bars ok ls u t x Read k in
          and_from (not (eqb u t)) (not (holds t x Write ls) && bars_with ok ls u x Read) (not_from_false (eqb u t) (ne_eqb u t r.0))
          (and_from (not (holds t x Write ls)) (bars_with ok ls u x Read) (not_from_false (holds t x Write ls) e) r.1)
  to_blocks (ask_write x v) m =
      let r = to_bars ok ls u t x Write m in
      and_from (not (eqb u t)) (bars_with ok ls u x Write) (not_from_false (eqb u t) (ne_eqb u t r.0)) r.1
  to_blocks ask_commit m =
      let r = ahead-lock u t ls m in
      and_from (not (eqb u t)) (reads_written u t ls ls) (not_from_false (eqb u t) (ne_eqb u t r.0)) (to_written u t r.1.0 ls ls r.1.2 r.1.1)

-- an open transaction has a place
pub place_of : (os : List Transaction) (t : ℕ) (s : State) → state_of t os ≡ Some s → (i : ℕ) × (i < length os) × (number_at os i ≡ t) × (state_at os i ≡ s)
place_of [] t s h = let z : ◌≡◌ {A = ℕ} 0 1 = cc in absurd (omega arith)
place_of (o ∷ os) t s h = go (eqb o.number t) refl (place_of os t s) h
  where
    go : (b : Bool) → eqb o.number t ≡ b → (state_of t os ≡ Some s → (i : ℕ) × (i < length os) × (number_at os i ≡ t) × (state_at os i ≡ s)) → cond b (Some o.state) (state_of t os) ≡ Some s → (i : ℕ) × (i < suc (length os)) × (number_at (o ∷ os) i ≡ t) × (state_at (o ∷ os) i ≡ s)
    go true e rest k = (0, omega arith, eqb-true o.number t e, cc)
    go false e rest k = let r = rest k in (suc r.0, omega (arith, r.1), r.2, r.3)

-- two places with one number are one
pub one_place : (last : ℕ) (os : List Transaction) → rising 0 last os ≡ true → (i j : ℕ) → i < length os → j < length os → number_at os i ≡ number_at os j → i ≡ j
one_place last os h i j a b e = elim (cases_order i j) [
  | inl q ↦ q
  | inr s ↦ elim s [
    | inl l ↦ let r = rising_order 0 last os i j h l b in absurd (omega arith)
    | inr l ↦ let r = rising_order 0 last os j i h l a in absurd (omega arith)
  ]
]
