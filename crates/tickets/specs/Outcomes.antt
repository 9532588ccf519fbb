-- The answer of the numbered call that an outcome tells, and the number of the ticket in it.
use Rattle.std.specs.Prelude.{◌≡◌, ℕ, Ok, Err, Result}
use Rattle.records.specs.declared.refusal.Refusal.{Refusal}
use Rattle.scheduler.specs.declared.reply.Reply.TheVariants.{Opened, Value, Written, Committed, Aborted, Wait, Deadlock}
use Rattle.scheduler.specs.Ledger.{Answer}
use Rattle.tickets.specs.declared.outcome.Found.{Found}
use Rattle.tickets.specs.declared.outcome.NotGranted.{NotGranted}
use Rattle.tickets.specs.declared.outcome.NotGranted.TheVariants.{Wait as not_wait, Deadlock as not_deadlock, Refused as not_refused}
use Rattle.tickets.specs.declared.outcome.Retried.{Retried}
use Rattle.tickets.specs.declared.outcome.Retried.TheVariants.{Value as retried_value, Written as retried_written, Committed as retried_committed}
use Rattle.tickets.specs.declared.ticket.Going.{Going}
use Rattle.tickets.specs.declared.ticket.Held.{Held}
use Rattle.tickets.specs.declared.ticket.Ticket.{Ticket}

-- the tickets as the code names them
abbrev pub Active : Type 0
Active = Ticket Going

abbrev pub Waiting : Type 0
Waiting = Ticket Held

-- the number of a ticket in any state
abbrev pub number_of : {S : Type 0} → Ticket S → ℕ
number_of k = k.number

-- what a call comes to that leaves a G where it is granted, and a ticket in the state S where it is refused
abbrev pub Outcome : Type 0 → Type 0 → Type 0
Outcome G S = Result G (NotGranted S)

-- a begin, whose ticket has the number that was opened
abbrev pub begin_answer : Result Active Refusal → Answer
begin_answer (Ok k) = Ok (Opened k.number)
begin_answer (Err e) = Err e

-- a call of the transaction t that is not granted
abbrev pub not_granted_answer : {S : Type 0} → ℕ → NotGranted S → Answer
not_granted_answer t (not_wait k b) = Ok (Wait t b)
not_granted_answer t not_deadlock = Ok (Deadlock t)
not_granted_answer t (not_refused k e) = Err e

-- a call of t, where `granted` is the answer of its grant
abbrev pub outcome_answer : {G S : Type 0} → (G → Answer) → ℕ → Outcome G S → Answer
outcome_answer granted t (Ok g) = granted g
outcome_answer granted t (Err n) = not_granted_answer t n

abbrev pub retried_answer : ℕ → Retried → Answer
retried_answer t (retried_value k i v) = Ok (Value t i v)
retried_answer t (retried_written k i) = Ok (Written t i)
retried_answer t retried_committed = Ok (Committed t)

-- a read of the item i by the transaction t
abbrev pub read_answer : ℕ → ℕ → Outcome Found Going → Answer
read_answer t i = outcome_answer (λ f. Ok (Value t i f.value)) t

abbrev pub write_answer : ℕ → ℕ → Outcome Active Going → Answer
write_answer t i = outcome_answer (λ k. Ok (Written t i)) t

abbrev pub commit_answer : ℕ → Outcome (Unit {0}) Going → Answer
commit_answer t = outcome_answer (λ u. Ok (Committed t)) t

abbrev pub retry_answer : ℕ → Outcome Retried Held → Answer
retry_answer t = outcome_answer (retried_answer t) t

abbrev pub abort_answer : ℕ → Result (Unit {0}) Refusal → Answer
abort_answer t (Ok u) = Ok (Aborted t)
abort_answer t (Err e) = Err e

-- the ticket that is left without a grant, if any, has the number t
abbrev pub NotGrantedNumber : {S : Type 0} → ℕ → NotGranted S → Type 0
NotGrantedNumber t (not_wait k b) = k.number ≡ t
NotGrantedNumber t not_deadlock = Unit {0}
NotGrantedNumber t (not_refused k e) = k.number ≡ t

-- the ticket that the outcome leaves, if any, has the number t; `OfGrant` says so of a grant
abbrev pub OutcomeNumber : {G S : Type 0} → (G → Type 0) → ℕ → Outcome G S → Type 0
OutcomeNumber OfGrant t (Ok g) = OfGrant g
OutcomeNumber OfGrant t (Err n) = NotGrantedNumber t n

abbrev pub RetriedNumber : ℕ → Retried → Type 0
RetriedNumber t (retried_value k i v) = k.number ≡ t
RetriedNumber t (retried_written k i) = k.number ≡ t
RetriedNumber t retried_committed = Unit {0}

abbrev pub ReadNumber : ℕ → Outcome Found Going → Type 0
ReadNumber t = OutcomeNumber (λ f. f.ticket.number ≡ t) t

abbrev pub WriteNumber : ℕ → Outcome Active Going → Type 0
WriteNumber t = OutcomeNumber (λ k. k.number ≡ t) t

abbrev pub CommitNumber : ℕ → Outcome (Unit {0}) Going → Type 0
CommitNumber t = OutcomeNumber (λ u. Unit {0}) t

abbrev pub RetryNumber : ℕ → Outcome Retried Held → Type 0
RetryNumber t = OutcomeNumber (RetriedNumber t) t
