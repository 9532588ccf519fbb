-- What each call is answered, at any state of the tables and of the store.
use Rattle.std.specs.Prelude.{◌≡◌, ℕ, ◌+◌, Bool, true, false, cond, not, ◌&&◌, ◌||◌, List, [], ◌∷◌, length, ℤ, is_some, Some, None, Ok, Err, Option, Result, ◌==◌, nat_le}
use Rattle.records.specs.declared.refusal.Layer.TheVariants.{Scheduler}
use Rattle.records.specs.declared.refusal.Reason.{Reason}
use Rattle.records.specs.declared.refusal.Reason.TheVariants.{NotOpen, Waiting as is_waiting, NotWaiting, NoSuchItem, TooManyOpen, NumbersSpent, LockListFull, Pair, PendingAtOpening}
use Rattle.records.specs.declared.refusal.Refusal.{Refusal}
use Rattle.records.specs.declared.request.Request.{Request}
use Rattle.records.specs.declared.request.Request.TheVariants.{Begin, Read, Write, Commit, Abort, Retry}
use Rattle.store.specs.Meaning.{Writes, looked, refused}
use Rattle.scheduler.specs.declared.lock.Lock.{Lock}
use Rattle.scheduler.specs.declared.lock.Kind.TheVariants.{Read as read_kind, Write as write_kind}
use Rattle.scheduler.specs.declared.transaction.Ask.{Ask}
use Rattle.scheduler.specs.declared.transaction.Ask.TheVariants.{Read as ask_read, Write as ask_write, Commit as ask_commit}
use Rattle.scheduler.specs.declared.transaction.State.{State}
use Rattle.scheduler.specs.declared.transaction.State.TheVariants.{Active, Waiting}
use Rattle.scheduler.specs.declared.reply.Reply.TheVariants.{Opened, Value, Written, Committed, Aborted, Wait, Deadlock}
use Rattle.scheduler.specs.Ledger.{Ledger, Answer, holds, state_of}
use Rattle.scheduler.specs.Blockers.{Rule, In, Chain, blockers}

abbrev pub of_scheduler : Reason → Refusal
of_scheduler why = record { layer = Scheduler; reason = why }

-- what a store fixes beside its values: private, room and share
pub record Terms : Type 0 where
  pub private : Bool
  pub room : ℕ
  pub share : ℕ

abbrev pub terms : Bool → ℕ → ℕ → Terms
terms private room share = record { private = private; room = room; share = share }

-- a rule over a store, whose pending writes are that many: refused where writes may stand side by side in a store that is not private
abbrev pub pair_refusal : Rule → Bool → ℕ → Option Refusal
pair_refusal ok private pending =
    cond (ok write_kind write_kind && not private) (Some (of_scheduler Pair))
    (cond (pending == 0) None (Some (of_scheduler PendingAtOpening)))

-- what a call comes to, once it has passed the checks
pub data Task : Type 0 where
  opening : Task
  ending : ℕ → Task
  trying : ℕ → Ask → Task

-- the checks, by the state of the call's transaction
abbrev pub asking : ℕ → Ask → Option State → Result Task Refusal
asking t a None = Err (of_scheduler NotOpen)
asking t a (Some Active) = Ok (trying t a)
asking t a (Some (Waiting b)) = Err (of_scheduler is_waiting)

abbrev pub retrying : ℕ → Option State → Result Task Refusal
retrying t None = Err (of_scheduler NotOpen)
retrying t (Some Active) = Err (of_scheduler NotWaiting)
retrying t (Some (Waiting a)) = Ok (trying t a)

abbrev pub aborting : ℕ → Option State → Result Task Refusal
aborting t None = Err (of_scheduler NotOpen)
aborting t (Some s) = Ok (ending t)

abbrev pub checked : Ledger → Request → Result Task Refusal
checked L Begin = cond (nat_le 64 (length L.opens)) (Err (of_scheduler TooManyOpen)) (cond (nat_le 60000 L.begins) (Err (of_scheduler NumbersSpent)) (Ok opening))
checked L (Read t i) = asking t (ask_read i) (state_of t L.opens)
checked L (Write t i v) = asking t (ask_write i v) (state_of t L.opens)
checked L (Commit t) = asking t ask_commit (state_of t L.opens)
checked L (Abort t) = aborting t (state_of t L.opens)
checked L (Retry t) = retrying t (state_of t L.opens)

-- the item is none of the size
abbrev pub no_item : ℕ → Ask → Bool
no_item size (ask_read i) = nat_le size i
no_item size (ask_write i v) = nat_le size i
no_item size ask_commit = false

abbrev pub full : Ledger → Bool
full L = nat_le 2048 (length L.locks)

-- a missing lock is refused where the list is full
abbrev pub with_room : Option Lock → Ledger → Result (Option Lock) Refusal
with_room l L = cond (is_some l && full L) (Err (of_scheduler LockListFull)) (Ok l)

abbrev pub value_read : ℕ → ℕ → Result ℤ Refusal → Answer
value_read t i (Ok v) = Ok (Value t i v)
value_read t i (Err e) = Err e

abbrev pub value_put : ℕ → ℕ → Option Refusal → Answer
value_put t i None = Ok (Written t i)
value_put t i (Some e) = Err e

-- what t is answered where nobody blocks it
abbrev pub granted : Terms → Ledger → List ℤ → Writes → ℕ → Ask → Answer
granted k L cs p t (ask_read i) =
    cond (not (holds t i read_kind L.locks || holds t i write_kind L.locks) && full L) (Err (of_scheduler LockListFull)) (value_read t i (looked cs p t i))
granted k L cs p t (ask_write i v) =
    cond (not (holds t i write_kind L.locks) && full L) (Err (of_scheduler LockListFull)) (value_put t i (refused k.private k.room k.share cs p t i))
granted k L cs p t ask_commit = Ok (Committed t)

-- t is blocked by bs: a deadlock if a chain of waits leads from one of them to t, else t waits for one of them, any
pub record Blocked (ok : Rule) (L : Ledger) (t : ℕ) (bs : List ℕ) (a : Answer) : Type 0 where
  pub circle : (b : ℕ) → In b bs → Chain ok L b t → a ≡ Ok (Deadlock t)
  pub clear : ((b : ℕ) → In b bs → Chain ok L b t → ⊥) → (b : ℕ) × In b bs × (a ≡ Ok (Wait t b))

abbrev pub Met : Rule → Terms → Ledger → List ℤ → Writes → ℕ → Ask → List ℕ → Answer → Type 0
Met ok k L cs p t x [] a = a ≡ granted k L cs p t x
Met ok k L cs p t x (b ∷ bs) a = Blocked ok L t (b ∷ bs) a

abbrev pub Tried : Rule → Terms → Ledger → List ℤ → Writes → ℕ → Ask → Answer → Type 0
Tried ok k L cs p t x a = Met ok k L cs p t x (blockers ok L.locks t x) a

abbrev pub Placed : Rule → Terms → Ledger → List ℤ → Writes → ℕ → Ask → Bool → Answer → Type 0
Placed ok k L cs p t x true a = a ≡ Err (of_scheduler NoSuchItem)
Placed ok k L cs p t x false a = Tried ok k L cs p t x a

abbrev pub Done : Rule → Terms → Ledger → List ℤ → Writes → Result Task Refusal → Answer → Type 0
Done ok k L cs p (Err e) a = a ≡ Err e
Done ok k L cs p (Ok opening) a = a ≡ Ok (Opened (L.begins + 1))
Done ok k L cs p (Ok (ending t)) a = a ≡ Ok (Aborted t)
Done ok k L cs p (Ok (trying t x)) a = Placed ok k L cs p t x (no_item (length cs) x) a

-- a is the answer to q; a refused pair gives its refusal to each call
abbrev pub Answers : Rule → Terms → Option Refusal → Ledger → List ℤ → Writes → Request → Answer → Type 0
Answers ok k (Some e) L cs p q a = a ≡ Err e
Answers ok k None L cs p q a = Done ok k L cs p (checked L q) a
