-- The call that a posting makes next, and what it becomes by the answer.
use Rattle.std.specs.Prelude.{◌≡◌, ℕ, ◌-◌, Bool, cond, ◌&&◌, ℤ, pos, negsuc, ◌+ℤ◌, Ok, Err, Result, ◌==◌, int_le}
use Rattle.records.specs.declared.refusal.Refusal.{Refusal}
use Rattle.records.specs.declared.request.Request.{Request}
use Rattle.records.specs.declared.request.Request.TheVariants.{Begin, Read, Write, Commit, Abort, Retry}
use Rattle.scheduler.specs.declared.reply.Reply.TheVariants.{Opened, Value, Written, Committed, Aborted, Wait, Deadlock}
use Rattle.scheduler.specs.Ledger.{Answer}
use Rattle.tickets.specs.declared.outcome.NotGranted.{NotGranted}
use Rattle.tickets.specs.declared.outcome.NotGranted.TheVariants.{Wait as not_wait, Deadlock as not_deadlock, Refused as not_refused}
use Rattle.tickets.specs.declared.ticket.Ticket.{Ticket}
use Rattle.tickets.specs.Outcomes.{Active, Waiting}
use Rattle.posting.specs.declared.posting.Cause.{Cause}
use Rattle.posting.specs.declared.posting.Cause.TheVariants.{Overflow, RetriesSpent, Refused, Deadlock as by_deadlock}
use Rattle.posting.specs.declared.posting.Game.{Game}
use Rattle.posting.specs.declared.posting.Outcome.TheVariants.{Posted, GivenUp, NotOpened, AbortRefused}
use Rattle.posting.specs.declared.posting.Posting.{Posting}
use Rattle.posting.specs.declared.posting.Stage.{Stage}
use Rattle.posting.specs.declared.posting.Stage.TheVariants.{Fresh, ToRead, ToWrite, ToCommit, ToRetry, ToGiveUp, ToAbort}
use Rattle.posting.specs.declared.posting.Turn.{Turn}
use Rattle.posting.specs.declared.posting.Turn.TheVariants.{Going, Told}

abbrev pub active : ℕ → Active
active t = record { number = t; state = record {} }

abbrev pub waiting : ℕ → Waiting
waiting t = record { number = t; state = record {} }

abbrev pub game : ℕ → ℤ → ℕ → Game
game team pins retries = record { team = team; pins = pins; retries = retries }

abbrev pub at : Game → Stage → Posting
at g s = record { game = g; stage = s }

abbrev pub fresh : ℕ → ℤ → ℕ → Posting
fresh team pins retries = at (game team pins retries) Fresh

abbrev pub requested : Game → Stage → Request
requested g Fresh = Begin
requested g (ToRead k) = Read k.number g.team
requested g (ToWrite k total) = Write k.number g.team total
requested g (ToCommit k) = Commit k.number
requested g (ToRetry k) = Retry k.number
requested g (ToGiveUp k) = Abort k.number
requested g (ToAbort k c) = Abort k.number

abbrev pub request : Posting → Request
request p = requested p.game p.stage

-- a value of an item
abbrev pub is_value : ℤ → Bool
is_value v = int_le (negsuc 2147483647) v && int_le v (pos 2147483647)

-- t is to write the new total, if it is a value
abbrev pub summed : ℕ → ℤ → Stage
summed t total = cond (is_value total) (ToWrite (active t) total) (ToAbort (active t) Overflow)

-- t waits: it is to retry if a retry is left
abbrev pub waits : Game → ℕ → Posting
waits g t = cond (g.retries == 0) (at g (ToGiveUp (waiting t))) (at (game g.team g.pins (g.retries - 1)) (ToRetry (waiting t)))

-- why it aborts; the other stages make no abort
abbrev pub cause : Stage → Cause
cause Fresh = RetriesSpent
cause (ToRead k) = RetriesSpent
cause (ToWrite k total) = RetriesSpent
cause (ToCommit k) = RetriesSpent
cause (ToRetry k) = RetriesSpent
cause (ToGiveUp k) = RetriesSpent
cause (ToAbort k c) = c

-- what an abort for that cause tells
abbrev pub ended : Cause → Result (Unit {0}) Refusal → Turn
ended c (Ok u) = Told (GivenUp c)
ended c (Err e) = Told (AbortRefused e)

-- a refused retry counts as a wait
abbrev pub refused : Game → Stage → Refusal → Turn
refused g Fresh e = Told (NotOpened e)
refused g (ToRead k) e = Going (at g (ToAbort k (Refused e)))
refused g (ToWrite k total) e = Going (at g (ToAbort k (Refused e)))
refused g (ToCommit k) e = Going (at g (ToAbort k (Refused e)))
refused g (ToRetry k) e = Going (waits g k.number)
refused g (ToGiveUp k) e = Told (AbortRefused e)
refused g (ToAbort k c) e = Told (AbortRefused e)

abbrev pub next : Posting → Answer → Turn
next p (Ok (Opened t)) = Going (at p.game (ToRead (active t)))
next p (Ok (Value t i v)) = Going (at p.game (summed t (v +ℤ p.game.pins)))
next p (Ok (Written t i)) = Going (at p.game (ToCommit (active t)))
next p (Ok (Committed t)) = Told Posted
next p (Ok (Aborted t)) = Told (GivenUp (cause p.stage))
next p (Ok (Wait t b)) = Going (waits p.game t)
next p (Ok (Deadlock t)) = Told (GivenUp by_deadlock)
next p (Err e) = refused p.game p.stage e

-- the turn after a call that is not granted; `OfRefused` says what a refusal makes of the ticket that it gives back
abbrev pub HeldUp : {S : Type 0} → (Ticket S → Refusal → Turn → Type 0) → Game → NotGranted S → Turn → Type 0
HeldUp OfRefused g (not_wait k b) r = r ≡ Going (waits g k.number)
HeldUp OfRefused g not_deadlock r = r ≡ Told (GivenUp by_deadlock)
HeldUp OfRefused g (not_refused k e) r = OfRefused k e r
