-- The waits, one block of items more, and all of them.
use Rattle.std.proofs.Common.{◌≡◌, ℕ, ◌+◌, ◌/◌, ◌<◌, Bool, true, false, not, ◌&&◌, ◌||◌, eqb, ltb, List, [], ◌∷◌, length, get_or, sym, refl, ap, ◌∙◌, subst, ap₂, inl, inr, arith}
use Rattle.std.proofs.lemmas.Bool.{and_parts, and_right, both_ways, cases_order, eq-eqb, eqb-true, le-ltb, lt-ltb, ne_eqb, or_cases, or_left, or_right}
use Rattle.scheduler.specs.declared.lock.Kind.{Kind}
use Rattle.scheduler.specs.declared.lock.Kind.TheVariants.{Read, Write}
use Rattle.scheduler.specs.declared.lock.Lock.{Lock}
use Rattle.scheduler.specs.declared.places.Places.{Places}
use Rattle.scheduler.specs.declared.transaction.Ask.TheVariants.{Read as ask_read, Write as ask_write, Commit as ask_commit}
use Rattle.scheduler.specs.declared.transaction.State.{State}
use Rattle.scheduler.specs.declared.transaction.State.TheVariants.{Active, Waiting}
use Rattle.scheduler.specs.declared.transaction.Transaction.{Transaction}
use Rattle.scheduler.specs.Bits.{has}
use Rattle.scheduler.specs.Blockers.{In, Rule, first, later}
use Rattle.scheduler.specs.Edges.{Covers, More, asks, bars_with, before_block, between, blocks, blocks_in, commits, edge, in_block, number_at, reads_written, state_at, written_in}
use Rattle.scheduler.specs.ItemSets.{no_places}
use Rattle.scheduler.specs.Ledger.{holds, is_lock}
use Rattle.scheduler.proofs.Gathered.{between_or}
use Rattle.scheduler.proofs.Gathering.{nothing-more}
use Rattle.scheduler.proofs.Locks.{holds_in}

-- tests
split_and : (x y b : Bool) → ((x || y) && b) ≡ ((x && b) || (y && b))
split_and true true true = refl
split_and true true false = refl
split_and true false true = refl
split_and true false false = refl
split_and false y b = refl

and_or : (n x y : Bool) → (n && (x || y)) ≡ ((n && x) || (n && y))
and_or true x y = refl
and_or false x y = refl

-- (x or y) or (z or w), the middle ones exchanged
cross : (x y z w : Bool) → ((x || y) || (z || w)) ≡ ((x || z) || (y || w))
cross true y z w = refl
cross false true true w = refl
cross false true false w = refl
cross false false true w = refl
cross false false false w = refl

-- the waits that come of the items that pass q
abbrev pub drawn : (ℕ → Bool) → Rule → List Lock → ℕ → ℕ → State → Bool
drawn q ok ls u t s = asks q ok ls u t s || commits q ls ls u t s

module _ (p q r : ℕ → Bool) (split : (x : ℕ) → r x ≡ (p x || q x)) where
  asks-split : (ok : Rule) (ls : List Lock) (u t : ℕ) (s : State) → asks r ok ls u t s ≡ (asks p ok ls u t s || asks q ok ls u t s)
  asks-split ok ls u t Active = refl
  asks-split ok ls u t (Waiting (ask_read x)) = ap (λ (b : Bool). b && blocks ok ls u t (ask_read x)) (split x) ∙ split_and (p x) (q x) (blocks ok ls u t (ask_read x))
  asks-split ok ls u t (Waiting (ask_write x v)) = ap (λ (b : Bool). b && blocks ok ls u t (ask_write x v)) (split x) ∙ split_and (p x) (q x) (blocks ok ls u t (ask_write x v))
  asks-split ok ls u t (Waiting ask_commit) = refl

  written-split : (u t : ℕ) (ls ms : List Lock) → written_in r u t ls ms ≡ (written_in p u t ls ms || written_in q u t ls ms)
  written-split u t ls [] = refl
  written-split u t ls (m ∷ ms) =
      ap₂ (λ (x y : Bool). x || y)
      (ap (λ (b : Bool). is_lock t m.item Write m && (b && holds u m.item Read ls)) (split m.item)
      ∙ ap (λ (b : Bool). is_lock t m.item Write m && b) (split_and (p m.item) (q m.item) (holds u m.item Read ls))
      ∙ and_or (is_lock t m.item Write m) (p m.item && holds u m.item Read ls) (q m.item && holds u m.item Read ls))
      (written-split u t ls ms)
      ∙ cross (is_lock t m.item Write m && (p m.item && holds u m.item Read ls)) (is_lock t m.item Write m && (q m.item && holds u m.item Read ls)) (written_in p u t ls ms) (written_in q u t ls ms)

  commits-split : (ls ms : List Lock) (u t : ℕ) (s : State) → commits r ls ms u t s ≡ (commits p ls ms u t s || commits q ls ms u t s)
  commits-split ls ms u t Active = refl
  commits-split ls ms u t (Waiting (ask_read x)) = refl
  commits-split ls ms u t (Waiting (ask_write x v)) = refl
  commits-split ls ms u t (Waiting ask_commit) = ap (λ (b : Bool). not (eqb u t) && b) (written-split u t ls ms) ∙ and_or (not (eqb u t)) (written_in p u t ls ms) (written_in q u t ls ms)

  pub drawn_split : (ok : Rule) (ls : List Lock) (u t : ℕ) (s : State) → drawn r ok ls u t s ≡ (drawn p ok ls u t s || drawn q ok ls u t s)
  drawn_split ok ls u t s = ap₂ (λ (x y : Bool). x || y) (asks-split ok ls u t s) (commits-split ls ls u t s) ∙ cross (asks p ok ls u t s) (asks q ok ls u t s) (commits p ls ls u t s) (commits q ls ls u t s)

block-split : (w x : ℕ) → before_block (w + 1) x ≡ (before_block w x || in_block w x)
block-split w x = elim (cases_order (x / 1024) w) [
  | inl e ↦ lt-ltb (x / 1024) (w + 1) (omega arith) ∙ sym (ap (λ (b : Bool). before_block w x || b) (eq-eqb (x / 1024) w e) ∙ or_right (before_block w x) true refl)
  | inr s ↦ elim s [
    | inl l ↦ lt-ltb (x / 1024) (w + 1) (omega arith) ∙ sym (or_left (before_block w x) (in_block w x) (lt-ltb (x / 1024) w l))
    | inr l ↦ le-ltb (x / 1024) (w + 1) (omega arith) ∙ sym (ap₂ (λ (a b : Bool). a || b) (le-ltb (x / 1024) w (omega arith)) (ne_eqb (x / 1024) w (λ e. omega arith)))
  ]
]

-- the rows so far have the waits of the blocks before w
abbrev pub Upto : Rule → List Transaction → List Lock → ℕ → List Places → Type 0
Upto ok os ls w rows = (a b : ℕ) → a < 64 → b < 64 → has (get_or rows b no_places).bits a ≡ between os (drawn (before_block w) ok ls) b a

-- a fact that holds of each wait by the items that pass q
module _ (q : ℕ → Bool) (ok : Rule) (ls : List Lock) (P : Type 0) (each : (l : Lock) → In l ls → q l.item ≡ true → P) where
  barred_so : (u x : ℕ) (k : Kind) → q x ≡ true → bars_with ok ls u x k ≡ true → P
  barred_so u x k e h = elim (or_cases (not (ok k Read) && holds u x Read ls) (not (ok k Write) && holds u x Write ls) h) [
    | inl a ↦ each _ (holds_in u x Read ls (and_parts (not (ok k Read)) (holds u x Read ls) a).1) e
    | inr a ↦ each _ (holds_in u x Write ls (and_parts (not (ok k Write)) (holds u x Write ls) a).1) e
  ]

  asks_so : (u t : ℕ) (s : State) → asks q ok ls u t s ≡ true → P
  asks_so u t Active h = absurd (both_ways false refl h)
  asks_so u t (Waiting (ask_read x)) h =
      let p = and_parts (q x) (blocks ok ls u t (ask_read x)) h in
      let r = and_parts (not (eqb u t)) (not (holds t x Write ls) && bars_with ok ls u x Read) p.1 in
      barred_so u x Read p.0 (and_parts (not (holds t x Write ls)) (bars_with ok ls u x Read) r.1).1
  asks_so u t (Waiting (ask_write x v)) h =
      let p = and_parts (q x) (blocks ok ls u t (ask_write x v)) h in
      barred_so u x Write p.0 (and_parts (not (eqb u t)) (bars_with ok ls u x Write) p.1).1
  asks_so u t (Waiting ask_commit) h = absurd (both_ways false refl h)

  written_so : (u t : ℕ) (ms : List Lock) → ((l : Lock) → In l ms → In l ls) → written_in q u t ls ms ≡ true → P
  written_so u t [] i h = absurd (both_ways false refl h)
  written_so u t (m ∷ ms) i h = elim (or_cases (is_lock t m.item Write m && (q m.item && holds u m.item Read ls)) (written_in q u t ls ms) h) [
    | inl a ↦ each m (i m first) (and_parts (q m.item) (holds u m.item Read ls) (and_parts (is_lock t m.item Write m) (q m.item && holds u m.item Read ls) a).1).0
    | inr a ↦ written_so u t ms (λ l j. i l (later j)) a
  ]

  commits_so : (u t : ℕ) (s : State) → commits q ls ls u t s ≡ true → P
  commits_so u t Active h = absurd (both_ways false refl h)
  commits_so u t (Waiting (ask_read x)) h = absurd (both_ways false refl h)
  commits_so u t (Waiting (ask_write x v)) h = absurd (both_ways false refl h)
  commits_so u t (Waiting ask_commit) h = written_so u t ls (λ l j. j) (and_parts (not (eqb u t)) (written_in q u t ls ls) h).1

  drawn_so : (u t : ℕ) (s : State) → drawn q ok ls u t s ≡ true → P
  drawn_so u t s h = elim (or_cases (asks q ok ls u t s) (commits q ls ls u t s) h) [ inl a ↦ asks_so u t s a | inr a ↦ commits_so u t s a ]

none_of : (b : Bool) → (b ≡ true → ⊥) → b ≡ false
none_of true n = absurd (n refl)
none_of false n = refl

between_none : (os : List Transaction) (f : ℕ → ℕ → State → Bool) (b a : ℕ) → ((u t : ℕ) (s : State) → f u t s ≡ false) → between os f b a ≡ false
between_none os f b a n = and_right (ltb b (length os)) _ (and_right (ltb a (length os)) _ (n (number_at os a) (number_at os b) (state_at os b)))

module _ (ok : Rule) (os : List Transaction) (ls : List Lock) where
  pub upto_none : (rows : List Places) → ((b a : ℕ) → has (get_or rows b no_places).bits a ≡ false) → Upto ok os ls 0 rows
  upto_none rows blank a b la lb = blank b a ∙ sym (between_none os (drawn (before_block 0) ok ls) b a (λ u t s. none_of _ (drawn_so (before_block 0) ok ls ⊥ (λ l m h. both_ways (before_block 0 l.item) (le-ltb (l.item / 1024) 0 (omega arith)) h) u t s)))

  upto_split : (w : ℕ) (b a : ℕ) → between os (drawn (before_block (w + 1)) ok ls) b a ≡ (between os (drawn (before_block w) ok ls) b a || between os (drawn (in_block w) ok ls) b a)
  upto_split w b a = between_or os (drawn (before_block w) ok ls) (drawn (in_block w) ok ls) (drawn (before_block (w + 1)) ok ls) (drawn_split (before_block w) (in_block w) (before_block (w + 1)) (block-split w) ok ls) b a

  -- a block with no locks
  pub upto_skip : (w set' : ℕ) (rows : List Places) → Covers ls set' → has set' w ≡ false → Upto ok os ls w rows → Upto ok os ls (w + 1) rows
  upto_skip w set' rows cov no' inv a b la lb =
      inv a b la lb
      ∙ nothing-more (between os (drawn (before_block w) ok ls) b a)
      ∙ ap (λ (x : Bool). between os (drawn (before_block w) ok ls) b a || x) (sym (between_none os (drawn (in_block w) ok ls) b a (λ u t s. none_of _ (drawn_so (in_block w) ok ls ⊥ (λ l m h.
      both_ways (has set' w) no' (subst (λ (n : ℕ). has set' n ≡ true) (eqb-true (l.item / 1024) w h) (cov l m).1)) u t s))))
      ∙ sym (upto_split w b a)

  -- a block whose waits are added
  pub upto_add : (w : ℕ) (rows mid next : List Places) → Upto ok os ls w rows → More os (asks (in_block w) ok ls) rows mid → More os (commits (in_block w) ls ls) mid next → Upto ok os ls (w + 1) next
  upto_add w rows mid next inv m n a b la lb =
      n a b la lb
      ∙ ap (λ (x : Bool). x || between os (commits (in_block w) ls ls) b a) (m a b la lb ∙ ap (λ (x : Bool). x || between os (asks (in_block w) ok ls) b a) (inv a b la lb))
      ∙ assoc (between os (drawn (before_block w) ok ls) b a) (between os (asks (in_block w) ok ls) b a) (between os (commits (in_block w) ls ls) b a)
      ∙ ap (λ (x : Bool). between os (drawn (before_block w) ok ls) b a || x) (sym (between_or os (asks (in_block w) ok ls) (commits (in_block w) ls ls) (drawn (in_block w) ok ls) (λ u t s. refl) b a))
      ∙ sym (upto_split w b a)
    where
      assoc : (x y z : Bool) → ((x || y) || z) ≡ (x || (y || z))
      assoc true y z = refl
      assoc false y z = refl

  -- all blocks
  module _ (set' : ℕ) (cov : Covers ls set') where
    inside : (l : Lock) → In l ls → before_block 64 l.item ≡ true
    inside l m = lt-ltb (l.item / 1024) 64 (cov l m).0

    item_inside : (u x : ℕ) (k : Kind) → bars_with ok ls u x k ≡ true → before_block 64 x ≡ true
    item_inside u x k h = elim (or_cases (not (ok k Read) && holds u x Read ls) (not (ok k Write) && holds u x Write ls) h) [
      | inl a ↦ inside _ (holds_in u x Read ls (and_parts (not (ok k Read)) (holds u x Read ls) a).1)
      | inr a ↦ inside _ (holds_in u x Write ls (and_parts (not (ok k Write)) (holds u x Write ls) a).1)
    ]

    written_all : (u t : ℕ) (ms : List Lock) → ((l : Lock) → In l ms → In l ls) → written_in (before_block 64) u t ls ms ≡ reads_written u t ls ms
    written_all u t [] i = refl
    written_all u t (m ∷ ms) i = ap₂ (λ (x y : Bool). x || y) (ap (λ (b : Bool). is_lock t m.item Write m && (b && holds u m.item Read ls)) (inside m (i m first))) (written_all u t ms (λ l j. i l (later j)))

    with_q : (x : Bool) (b : Bool) → (b ≡ true → x ≡ true) → (x && b) ≡ b
    with_q true b h = refl
    with_q false true h = absurd (both_ways false refl (h refl))
    with_q false false h = refl

    or_none : (x : Bool) → (x || false) ≡ x
    or_none true = refl
    or_none false = refl

    drawn_all : (u t : ℕ) (s : State) → drawn (before_block 64) ok ls u t s ≡ blocks_in ok ls u t s
    drawn_all u t Active = refl
    drawn_all u t (Waiting (ask_read x)) = or_none _ ∙ with_q (before_block 64 x) (blocks ok ls u t (ask_read x)) (λ h.
        item_inside u x Read (and_parts (not (holds t x Write ls)) (bars_with ok ls u x Read) (and_parts (not (eqb u t)) (not (holds t x Write ls) && bars_with ok ls u x Read) h).1).1)
    drawn_all u t (Waiting (ask_write x v)) = or_none _ ∙ with_q (before_block 64 x) (blocks ok ls u t (ask_write x v)) (λ h. item_inside u x Write (and_parts (not (eqb u t)) (bars_with ok ls u x Write) h).1)
    drawn_all u t (Waiting ask_commit) = ap (λ (b : Bool). not (eqb u t) && b) (written_all u t ls (λ l j. j))

    pub upto_all : (rows : List Places) → Upto ok os ls 64 rows → (a b : ℕ) → a < 64 → b < 64 → has (get_or rows b no_places).bits a ≡ edge ok os ls b a
    upto_all rows inv a b la lb = inv a b la lb ∙ ap (λ (x : Bool). ltb b (length os) && (ltb a (length os) && x)) (drawn_all (number_at os a) (number_at os b) (state_at os b))
