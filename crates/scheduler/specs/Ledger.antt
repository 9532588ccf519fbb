-- What the scheduler keeps, and how a call with its answer changes it. The same definition is the ledger of a run.
use Rattle.std.specs.Prelude.{ℕ, ◌+◌, Bool, true, false, cond, not, ◌&&◌, ◌||◌, List, [], ◌∷◌, ◌++◌, Some, None, Ok, Err, filter, Option, Result, ◌==◌}
use Rattle.std.specs.List.{list_any}
use Rattle.records.specs.declared.refusal.Refusal.{Refusal}
use Rattle.records.specs.declared.request.Request.{Request}
use Rattle.records.specs.declared.request.Request.TheVariants.{Begin, Read, Write, Commit, Abort, Retry}
use Rattle.scheduler.specs.declared.lock.Kind.{Kind}
use Rattle.scheduler.specs.declared.lock.Kind.TheVariants.{Read as read_kind, Write as write_kind}
use Rattle.scheduler.specs.declared.lock.Lock.{Lock}
use Rattle.scheduler.specs.declared.transaction.Ask.{Ask}
use Rattle.scheduler.specs.declared.transaction.Ask.TheVariants.{Read as ask_read, Write as ask_write, Commit as ask_commit}
use Rattle.scheduler.specs.declared.transaction.State.{State}
use Rattle.scheduler.specs.declared.transaction.State.TheVariants.{Active, Waiting}
use Rattle.scheduler.specs.declared.transaction.Transaction.{Transaction}
use Rattle.scheduler.specs.declared.reply.Reply.{Reply}
use Rattle.scheduler.specs.declared.reply.Reply.TheVariants.{Opened, Value, Written, Committed, Aborted, Wait, Deadlock}

-- the number of begins, the open transactions, and the locks in the order of granting
pub record Ledger : Type 0 where
  pub begins : ℕ
  pub opens : List Transaction
  pub locks : List Lock

abbrev pub ledger : ℕ → List Transaction → List Lock → Ledger
ledger n os ls = record { begins = n; opens = os; locks = ls }

abbrev pub empty : Ledger
empty = ledger 0 [] []

-- what a call is answered: a reply, or a refusal
abbrev pub Answer : Type 0
Answer = Result Reply Refusal

abbrev pub lock : ℕ → ℕ → Kind → Lock
lock t i k = record { owner = t; item = i; kind = k }

abbrev pub same_kind : Kind → Kind → Bool
same_kind read_kind read_kind = true
same_kind read_kind write_kind = false
same_kind write_kind read_kind = false
same_kind write_kind write_kind = true

-- l is t's lock of the kind k on the item i
abbrev pub is_lock : ℕ → ℕ → Kind → Lock → Bool
is_lock t i k l = l.owner == t && (l.item == i && same_kind l.kind k)

-- t holds a lock of the kind k on the item i
abbrev pub holds : ℕ → ℕ → Kind → List Lock → Bool
holds t i k = list_any (is_lock t i k)

-- a lock of t's serves for the kind: for a read any, for a write a write lock
abbrev pub serves : ℕ → ℕ → Kind → List Lock → Bool
serves t i read_kind ls = holds t i read_kind ls || holds t i write_kind ls
serves t i write_kind ls = holds t i write_kind ls

-- the lock that t lacks for the kind, if it does
abbrev pub missing : ℕ → ℕ → Kind → List Lock → Option Lock
missing t i k ls = cond (serves t i k ls) None (Some (lock t i k))

-- the locks with one more at the end, if there is one
abbrev pub added : Option Lock → List Lock → List Lock
added None ls = ls
added (Some l) ls = ls ++ l ∷ []

-- t's read lock is added at the end if t has no lock on the item
abbrev pub with_read : ℕ → ℕ → List Lock → List Lock
with_read t i ls = cond (holds t i read_kind ls || holds t i write_kind ls) ls (ls ++ lock t i read_kind ∷ [])

-- t's write lock is added at the end unless t has it
abbrev pub with_write : ℕ → ℕ → List Lock → List Lock
with_write t i ls = cond (holds t i write_kind ls) ls (ls ++ lock t i write_kind ∷ [])

-- the locks of the others
abbrev pub unlocked : ℕ → List Lock → List Lock
unlocked t = filter (λ l. not (l.owner == t))

abbrev pub transaction : ℕ → State → Transaction
transaction t s = record { number = t; state = s }

-- t's state, if t is open
abbrev pub state_of : ℕ → List Transaction → Option State
state_of t [] = None
state_of t (o ∷ os) = cond (o.number == t) (Some o.state) (state_of t os)

-- t is now in the state s
abbrev pub restated : ℕ → State → List Transaction → List Transaction
restated t s [] = []
restated t s (o ∷ os) = cond (o.number == t) (transaction t s ∷ os) (o ∷ restated t s os)

-- the open transactions but t
abbrev pub closed : ℕ → List Transaction → List Transaction
closed t = filter (λ o. not (o.number == t))

-- what a transaction in that state holds
abbrev pub held : Option State → Option Ask
held None = None
held (Some Active) = None
held (Some (Waiting a)) = Some a

-- what a call asks for; a retry asks for what its transaction holds
abbrev pub asked : Ledger → Request → Option Ask
asked L Begin = None
asked L (Read t i) = Some (ask_read i)
asked L (Write t i v) = Some (ask_write i v)
asked L (Commit t) = Some ask_commit
asked L (Abort t) = None
asked L (Retry t) = held (state_of t L.opens)

abbrev pub waiting : Option Ask → ℕ → List Transaction → List Transaction
waiting None t os = os
waiting (Some a) t os = restated t (Waiting a) os

-- t is struck out, with its locks
abbrev pub struck : ℕ → Ledger → Ledger
struck t L = ledger L.begins (closed t L.opens) (unlocked t L.locks)

-- the ledger after a reply to a call that asked for a
abbrev pub noted : Ledger → Option Ask → Reply → Ledger
noted L a (Opened t) = ledger (L.begins + 1) (L.opens ++ transaction t Active ∷ []) L.locks
noted L a (Value t i v) = ledger L.begins (restated t Active L.opens) (with_read t i L.locks)
noted L a (Written t i) = ledger L.begins (restated t Active L.opens) (with_write t i L.locks)
noted L a (Committed t) = struck t L
noted L a (Aborted t) = struck t L
noted L a (Wait t b) = ledger L.begins (waiting a t L.opens) L.locks
noted L a (Deadlock t) = struck t L

-- the ledger after an answer; a refusal changes nothing
abbrev pub fed : Ledger → Option Ask → Answer → Ledger
fed L a (Ok r) = noted L a r
fed L a (Err e) = L

-- the ledger after a call with its answer
abbrev pub feed : Ledger → Request → Answer → Ledger
feed L q r = fed L (asked L q) r
