-- Who waits for whom, as tests on the locks, by the places of the open transactions.
use Rattle.std.specs.Prelude.{◌≡◌, ℕ, ◌+◌, ◌*◌, ◌/◌, ◌<◌, Bool, true, false, not, ◌&&◌, ◌||◌, List, [], ◌∷◌, length, ◌==◌, nat_lt, slice_index_or}
use Rattle.scheduler.specs.declared.lock.Kind.{Kind}
use Rattle.scheduler.specs.declared.lock.Kind.TheVariants.{Read, Write}
use Rattle.scheduler.specs.declared.lock.Lock.{Lock}
use Rattle.scheduler.specs.declared.places.Places.{Places}
use Rattle.scheduler.specs.declared.transaction.Ask.{Ask}
use Rattle.scheduler.specs.declared.transaction.Ask.TheVariants.{Read as ask_read, Write as ask_write, Commit as ask_commit}
use Rattle.scheduler.specs.declared.transaction.State.{State}
use Rattle.scheduler.specs.declared.transaction.State.TheVariants.{Active, Waiting}
use Rattle.scheduler.specs.declared.transaction.Transaction.{Transaction}
use Rattle.scheduler.specs.Orders.{no_transaction}
use Rattle.scheduler.specs.Bits.{has}
use Rattle.scheduler.specs.Blockers.{In, Rule}
use Rattle.scheduler.specs.ItemSets.{no_places}
use Rattle.scheduler.specs.Ledger.{Ledger, holds, is_lock}

abbrev pub number_at : List Transaction → ℕ → ℕ
number_at os a = (slice_index_or os a no_transaction).number

abbrev pub state_at : List Transaction → ℕ → State
state_at os a = (slice_index_or os a no_transaction).state

-- u has a lock on the item beside which the rule says no to the kind
abbrev pub bars_with : Rule → List Lock → ℕ → ℕ → Kind → Bool
bars_with ok ls u x k = (not (ok k Read) && holds u x Read ls) || (not (ok k Write) && holds u x Write ls)

-- u has a read lock on an item on which one of the locks ms is t's write lock
abbrev pub reads_written : ℕ → ℕ → List Lock → List Lock → Bool
reads_written u t ls [] = false
reads_written u t ls (m ∷ ms) = (is_lock t m.item Write m && holds u m.item Read ls) || reads_written u t ls ms

-- u blocks what t asks for
abbrev pub blocks : Rule → List Lock → ℕ → ℕ → Ask → Bool
blocks ok ls u t (ask_read x) = not (u == t) && (not (holds t x Write ls) && bars_with ok ls u x Read)
blocks ok ls u t (ask_write x v) = not (u == t) && bars_with ok ls u x Write
blocks ok ls u t ask_commit = not (u == t) && reads_written u t ls ls

abbrev pub blocks_in : Rule → List Lock → ℕ → ℕ → State → Bool
blocks_in ok ls u t Active = false
blocks_in ok ls u t (Waiting a) = blocks ok ls u t a

-- the transaction at the place b waits for that at the place a
abbrev pub edge : Rule → List Transaction → List Lock → ℕ → ℕ → Bool
edge ok os ls b a = nat_lt b (length os) && (nat_lt a (length os) && blocks_in ok ls (number_at os a) (number_at os b) (state_at os b))

-- the row of each place below 64 has the places that it has an edge to
abbrev pub Drawn : Rule → Ledger → List Places → Type 0
Drawn ok L rows = (a b : ℕ) → a < 64 → b < 64 → has (slice_index_or rows b no_places).bits a ≡ edge ok L.opens L.locks b a

-- a transaction in that state waits to commit
abbrev pub committing : State → Bool
committing Active = false
committing (Waiting (ask_read x)) = false
committing (Waiting (ask_write x v)) = false
committing (Waiting ask_commit) = true

-- The edges that come of some of the items, those that pass q.
-- Of what a reader or a writer asks for:
abbrev pub asks : (ℕ → Bool) → Rule → List Lock → ℕ → ℕ → State → Bool
asks q ok ls u t Active = false
asks q ok ls u t (Waiting (ask_read x)) = q x && blocks ok ls u t (ask_read x)
asks q ok ls u t (Waiting (ask_write x v)) = q x && blocks ok ls u t (ask_write x v)
asks q ok ls u t (Waiting ask_commit) = false

abbrev pub written_in : (ℕ → Bool) → ℕ → ℕ → List Lock → List Lock → Bool
written_in q u t ls [] = false
written_in q u t ls (m ∷ ms) = (is_lock t m.item Write m && (q m.item && holds u m.item Read ls)) || written_in q u t ls ms

-- and of a commit, by the write locks ms:
abbrev pub commits : (ℕ → Bool) → List Lock → List Lock → ℕ → ℕ → State → Bool
commits q ls ms u t Active = false
commits q ls ms u t (Waiting (ask_read x)) = false
commits q ls ms u t (Waiting (ask_write x v)) = false
commits q ls ms u t (Waiting ask_commit) = not (u == t) && written_in q u t ls ms

-- a test on two places of open transactions
abbrev pub between : List Transaction → (ℕ → ℕ → State → Bool) → ℕ → ℕ → Bool
between os f b a = nat_lt b (length os) && (nat_lt a (length os) && f (number_at os a) (number_at os b) (state_at os b))

-- the item is in the block of 1,024 items, or in one before it
abbrev pub in_block : ℕ → ℕ → Bool
in_block w x = x / 1024 == w

abbrev pub before_block : ℕ → ℕ → Bool
before_block w x = nat_lt (x / 1024) w

-- for each item of the block, the places that hold a lock of the kind on it
abbrev pub Held : List Transaction → List Lock → ℕ → Kind → List Places → Type 0
Held os ls w k cells = (j a : ℕ) → j < 1024 → a < 64 → has (slice_index_or cells j no_places).bits a ≡ (nat_lt a (length os) && holds (number_at os a) (w * 1024 + j) k ls)

-- the rows have more edges, those of f
abbrev pub More : List Transaction → (ℕ → ℕ → State → Bool) → List Places → List Places → Type 0
More os f rows next = (a b : ℕ) → a < 64 → b < 64 → has (slice_index_or next b no_places).bits a ≡ (has (slice_index_or rows b no_places).bits a || between os f b a)

-- every lock's block is in the set
abbrev pub Covers : List Lock → ℕ → Type 0
Covers ls set' = (l : Lock) → In l ls → (l.item / 1024 < 64) × (has set' (l.item / 1024) ≡ true)
