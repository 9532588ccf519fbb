-- One lock, one transaction or one block of items more, as the waits are gathered.
use Rattle.std.proofs.Common.{◌≡◌, ℕ, ◌+◌, ◌*◌, ◌/◌, ◌%◌, ◌<◌, ◌≤◌, Bool, true, false, ◌&&◌, ◌||◌, eqb, ltb, List, [], length, get_or, take, set, replicate, Some, None, sym, refl, ap, ◌∙◌, subst, inl, inr, arith}
use Rattle.std.proofs.lemmas.List.{get_or_past, get_or-replicate, get_or-set_other, get_or-set_same, length-replicate, length-set, take_more}
use Rattle.std.proofs.lemmas.Bool.{and_from, and_left, and_parts, and_right, both_ways, cases_Bool, cases_eq, cases_lt, eq-eqb, eqb-true, le-ltb, lt-ltb, ne_eqb}
use Rattle.scheduler.specs.declared.lock.Kind.{Kind}
use Rattle.scheduler.specs.declared.lock.Lock.{Lock}
use Rattle.scheduler.specs.declared.places.Places.{Places}
use Rattle.scheduler.specs.declared.transaction.State.{State}
use Rattle.scheduler.specs.declared.transaction.Transaction.{Transaction}
use Rattle.scheduler.specs.Orders.{no_lock, rising}
use Rattle.scheduler.specs.Bits.{has}
use Rattle.scheduler.specs.Blockers.{In}
use Rattle.scheduler.specs.Edges.{Covers, Held, in_block, number_at}
use Rattle.scheduler.specs.Found.{At}
use Rattle.scheduler.specs.Holding.{Puts}
use Rattle.scheduler.specs.ItemSets.{no_places}
use Rattle.scheduler.specs.Ledger.{holds, is_lock, same_kind, state_of}
use Rattle.scheduler.proofs.Bit.{has-none}
use Rattle.scheduler.proofs.Edging.{one_place}
use Rattle.scheduler.proofs.Locks.{holds-push, is_lock_eq, is_lock_other, same_kind-refl}
use Rattle.scheduler.proofs.Members.{in_nothing, in_push}
use Rattle.scheduler.proofs.Rising.{at-rising}

-- tests
pub same_test : (x y : Bool) → (x ≡ true → y ≡ true) → (y ≡ true → x ≡ true) → x ≡ y
same_test true true f g = refl
same_test true false f g = sym (f refl)
same_test false true f g = g refl
same_test false false f g = refl

pub nothing-more : (b : Bool) → b ≡ (b || false)
nothing-more true = refl
nothing-more false = refl

spread : (l h i : Bool) → (l && (h || i)) ≡ ((l && h) || (l && i))
spread true h i = refl
spread false h i = refl

-- no places at all
pub blank : (n j a : ℕ) → has (get_or (replicate n no_places) j no_places).bits a ≡ false
blank n j a = ap (λ (w : Places). has w.bits a) all ∙ has-none a
  where
    all : get_or (replicate n no_places) j no_places ≡ no_places
    all = elim (cases_lt j n) [
      | inl l ↦ get_or-replicate n j no_places no_places l
      | inr l ↦ get_or_past (replicate n no_places) j no_places (subst (λ (m : ℕ). m ≤ j) (sym (length-replicate n no_places)) l)
    ]

-- the blocks of the locks so far
pub covers_none : (s : ℕ) → Covers [] s
covers_none s l m = absurd (in_nothing m)

pub covers_more : (ls : List Lock) (k s s' : ℕ) → k < length ls → (get_or ls k no_lock).item / 1024 < 64 → Covers (take k ls) s → ((p : ℕ) → has s' p ≡ (has s p || eqb ((get_or ls k no_lock).item / 1024) p)) → Covers (take (k + 1) ls) s'
covers_more ls k s s' l w c h x m = elim (in_push (take k ls) (get_or ls k no_lock) (subst (λ (ys : List Lock). In x ys) (take_more ls k no_lock l) m)) [
  | inl j ↦ let r = c x j in (r.0, h (x.item / 1024) ∙ ap (λ (b : Bool). b || eqb ((get_or ls k no_lock).item / 1024) (x.item / 1024)) r.1)
  | inr e ↦ (
    subst (λ (y : Lock). y.item / 1024 < 64) (sym e) w,
    h (x.item / 1024) ∙ ap (λ (b : Bool). has s (x.item / 1024) || b) (eq-eqb ((get_or ls k no_lock).item / 1024) (x.item / 1024) (ap (λ (y : Lock). y.item / 1024) (sym e))) ∙ or_true (has s (x.item / 1024)),
  )
]
  where
    or_true : (b : Bool) → (b || true) ≡ true
    or_true true = refl
    or_true false = refl

-- one lock more
module _ (os : List Transaction) (last : ℕ) (up : rising 0 last os ≡ true) (ls : List Lock) (k w : ℕ) (kind : Kind) (in' : k < length ls) where
  held-step : (cells next : List Places) → Held os (take k ls) w kind cells
      → ((j a : ℕ) → j < 1024 → a < 64 → has (get_or next j no_places).bits a ≡ (has (get_or cells j no_places).bits a || (ltb a (length os) && is_lock (number_at os a) (w * 1024 + j) kind (get_or ls k no_lock))))
      → Held os (take (k + 1) ls) w kind next
  held-step cells next H step j a lj la =
      step j a lj la
      ∙ ap (λ (b : Bool). b || (ltb a (length os) && is_lock (number_at os a) (w * 1024 + j) kind (get_or ls k no_lock))) (H j a lj la)
      ∙ sym (spread (ltb a (length os)) (holds (number_at os a) (w * 1024 + j) kind (take k ls)) (is_lock (number_at os a) (w * 1024 + j) kind (get_or ls k no_lock)))
      ∙ ap (λ (b : Bool). ltb a (length os) && b) (sym (ap (holds (number_at os a) (w * 1024 + j) kind) (take_more ls k no_lock in') ∙ holds-push (number_at os a) (w * 1024 + j) kind (take k ls) (get_or ls k no_lock)))

  -- where the lock at hand gives nobody in the block a lock
  held_quiet : (cells : List Places) → Held os (take k ls) w kind cells → ((j a : ℕ) → j < 1024 → (ltb a (length os) && is_lock (number_at os a) (w * 1024 + j) kind (get_or ls k no_lock)) ≡ false) → Held os (take (k + 1) ls) w kind cells
  held_quiet cells H quiet = held-step cells cells H (λ j a lj la. nothing-more (has (get_or cells j no_places).bits a) ∙ ap (λ (b : Bool). has (get_or cells j no_places).bits a || b) (sym (quiet j a lj)))

  -- it is of another kind or block
  pub held_skip : (cells : List Places) → Held os (take k ls) w kind cells → (same_kind (get_or ls k no_lock).kind kind && in_block w (get_or ls k no_lock).item) ≡ false → Held os (take (k + 1) ls) w kind cells
  held_skip cells H e = held_quiet cells H quiet
    where
      quiet : (j a : ℕ) → j < 1024 → (ltb a (length os) && is_lock (number_at os a) (w * 1024 + j) kind (get_or ls k no_lock)) ≡ false
      quiet j a lj = elim (cases_Bool (is_lock (number_at os a) (w * 1024 + j) kind (get_or ls k no_lock))) [
        | inr q ↦ and_right (ltb a (length os)) _ q
        | inl q ↦
            let s = is_lock_eq (number_at os a) (w * 1024 + j) kind (get_or ls k no_lock) q in
            let it : (get_or ls k no_lock).item ≡ w * 1024 + j = ap (λ (l : Lock). l.item) s in
            let bl : (get_or ls k no_lock).item / 1024 ≡ w = ap (λ (n : ℕ). n / 1024) it ∙ omega arith in
            absurd (both_ways _ e (and_from (same_kind (get_or ls k no_lock).kind kind) (in_block w (get_or ls k no_lock).item) (ap (λ (l : Lock). same_kind l.kind kind) s ∙ same_kind-refl kind) (eq-eqb _ w bl)))
      ]

  -- its owner is not open
  pub held_gone : (cells : List Places) → Held os (take k ls) w kind cells → state_of (get_or ls k no_lock).owner os ≡ None → Held os (take (k + 1) ls) w kind cells
  held_gone cells H e = held_quiet cells H quiet
    where
      quiet : (j a : ℕ) → j < 1024 → (ltb a (length os) && is_lock (number_at os a) (w * 1024 + j) kind (get_or ls k no_lock)) ≡ false
      quiet j a lj = elim (cases_lt a (length os)) [
        | inr n ↦ and_left (ltb a (length os)) _ (le-ltb a (length os) n)
        | inl l ↦ and_right (ltb a (length os)) _ (is_lock_other (number_at os a) (w * 1024 + j) kind (get_or ls k no_lock) (λ q.
            none_some (sym e ∙ ap (λ (n : ℕ). state_of n os) q ∙ (at-rising 0 last os up (number_at os a) a l refl).state)))
      ]
        where
          none_some : {s : State} → None ≡ Some s → ⊥
          none_some z = let y : ◌≡◌ {A = ℕ} 0 1 = cc in omega arith

  -- it is the lock of the transaction at the place p
  pub held_add : (cells : List Places) (p : ℕ) (c : Places) → Held os (take k ls) w kind cells → (same_kind (get_or ls k no_lock).kind kind && in_block w (get_or ls k no_lock).item) ≡ true
      → At os (get_or ls k no_lock).owner p → (get_or ls k no_lock).item % 1024 < length cells
      → ((a : ℕ) → has c.bits a ≡ (has (get_or cells ((get_or ls k no_lock).item % 1024) no_places).bits a || eqb p a))
      → Held os (take (k + 1) ls) w kind (set cells ((get_or ls k no_lock).item % 1024) c)
  held_add cells p c H e at lc h = held-step cells (set cells ((get_or ls k no_lock).item % 1024) c) H step
    where
      parts : (same_kind (get_or ls k no_lock).kind kind ≡ true) × (in_block w (get_or ls k no_lock).item ≡ true)
      parts = and_parts (same_kind (get_or ls k no_lock).kind kind) (in_block w (get_or ls k no_lock).item) e

      whole : (get_or ls k no_lock).item ≡ w * 1024 + (get_or ls k no_lock).item % 1024
      whole = let b : (get_or ls k no_lock).item / 1024 ≡ w = eqb-true _ w parts.1 in omega arith

      mine : (a : ℕ) → (ltb a (length os) && is_lock (number_at os a) (w * 1024 + (get_or ls k no_lock).item % 1024) kind (get_or ls k no_lock)) ≡ eqb p a
      mine a = elim (cases_eq p a) [
        | inl q ↦
            subst (λ (n : ℕ). (ltb n (length os) && is_lock (number_at os n) (w * 1024 + (get_or ls k no_lock).item % 1024) kind (get_or ls k no_lock)) ≡ true) q
            (and_from (ltb p (length os)) _ (lt-ltb p (length os) at.within)
            (and_from (eqb (get_or ls k no_lock).owner (number_at os p)) _ (eq-eqb _ _ (sym at.number))
            (and_from (eqb (get_or ls k no_lock).item (w * 1024 + (get_or ls k no_lock).item % 1024)) _ (eq-eqb _ _ whole) parts.0)))
            ∙ sym (eq-eqb p a q)
        | inr n ↦ elim (cases_lt a (length os)) [
          | inr g ↦ and_left (ltb a (length os)) _ (le-ltb a (length os) g) ∙ sym (ne_eqb p a n)
          | inl g ↦ and_right (ltb a (length os)) _ (is_lock_other (number_at os a) (w * 1024 + (get_or ls k no_lock).item % 1024) kind (get_or ls k no_lock) (λ q. n (one_place last os up p a at.within g (at.number ∙ q)))) ∙ sym (ne_eqb p a n)
        ]
      ]

      elsewhere : (j a : ℕ) → j < 1024 → (j ≡ (get_or ls k no_lock).item % 1024 → ⊥) → (ltb a (length os) && is_lock (number_at os a) (w * 1024 + j) kind (get_or ls k no_lock)) ≡ false
      elsewhere j a lj n = elim (cases_Bool (is_lock (number_at os a) (w * 1024 + j) kind (get_or ls k no_lock))) [
        | inr q ↦ and_right (ltb a (length os)) _ q
        | inl q ↦
            let it : (get_or ls k no_lock).item ≡ w * 1024 + j = ap (λ (x : Lock). x.item) (is_lock_eq (number_at os a) (w * 1024 + j) kind (get_or ls k no_lock) q) in
            absurd (n (omega arith))
      ]

      step : (j a : ℕ) → j < 1024 → a < 64 → has (get_or (set cells ((get_or ls k no_lock).item % 1024) c) j no_places).bits a ≡ (has (get_or cells j no_places).bits a || (ltb a (length os) && is_lock (number_at os a) (w * 1024 + j) kind (get_or ls k no_lock)))
      step j a lj la = elim (cases_eq j ((get_or ls k no_lock).item % 1024)) [
        | inl q ↦
            subst (λ (n : ℕ). has (get_or (set cells ((get_or ls k no_lock).item % 1024) c) n no_places).bits a ≡ (has (get_or cells n no_places).bits a || (ltb a (length os) && is_lock (number_at os a) (w * 1024 + n) kind (get_or ls k no_lock)))) (sym q)
            (ap (λ (y : Places). has y.bits a) (get_or-set_same cells ((get_or ls k no_lock).item % 1024) c no_places lc) ∙ h a ∙ ap (λ (b : Bool). has (get_or cells ((get_or ls k no_lock).item % 1024) no_places).bits a || b) (sym (mine a)))
        | inr n ↦
            ap (λ (y : Places). has y.bits a) (get_or-set_other cells ((get_or ls k no_lock).item % 1024) j c no_places n)
            ∙ nothing-more (has (get_or cells j no_places).bits a)
            ∙ ap (λ (b : Bool). has (get_or cells j no_places).bits a || b) (sym (elsewhere j a lj n))
      ]

  -- it is of the block, and is put to the cells of its kind
  pub held_put : (cells next : List Places) (p : ℕ) → Held os (take k ls) w kind cells → length cells ≡ 1024 → in_block w (get_or ls k no_lock).item ≡ true → At os (get_or ls k no_lock).owner p
      → Puts (same_kind (get_or ls k no_lock).kind kind) cells next ((get_or ls k no_lock).item % 1024) p → Held os (take (k + 1) ls) w kind next × (length next ≡ 1024)
  held_put cells next p H long in' at = go (same_kind (get_or ls k no_lock).kind kind) refl
    where
      go : (b : Bool) → same_kind (get_or ls k no_lock).kind kind ≡ b → Puts b cells next ((get_or ls k no_lock).item % 1024) p → Held os (take (k + 1) ls) w kind next × (length next ≡ 1024)
      go false e same = rw same (held_skip cells H (ap (λ (b : Bool). b && in_block w (get_or ls k no_lock).item) e), long)
      go true e put =
          let small : (get_or ls k no_lock).item % 1024 < length cells = omega (arith, long) in
          rw put.1 (held_add cells p put.0 H (ap (λ (b : Bool). b && in_block w (get_or ls k no_lock).item) e ∙ in') at small put.2, length-set cells _ put.0 ∙ long)

  -- it is of another block
  pub held-elsewhere : (cells : List Places) → Held os (take k ls) w kind cells → in_block w (get_or ls k no_lock).item ≡ false → Held os (take (k + 1) ls) w kind cells
  held-elsewhere cells H e = held_skip cells H (and_right (same_kind (get_or ls k no_lock).kind kind) (in_block w (get_or ls k no_lock).item) e)
