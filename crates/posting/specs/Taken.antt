-- What one step of a posting does.
use Rattle.std.specs.Prelude.{◌≡◌, ℕ, ◌+◌, ◌*◌, ◌<◌, Some, None, Ok, Option}
use Rattle.records.specs.declared.refusal.Refusal.{Refusal}
use Rattle.store.specs.declared.store.Store as a_store
use Rattle.scheduler.specs.declared.rule.LockRule as a_rule
use Rattle.scheduler.specs.declared.scheduler.Scheduler.{Scheduler}
use Rattle.scheduler.specs.declared.reply.Reply.TheVariants.{Committed}
use Rattle.scheduler.specs.Blockers.{Rule}
use Rattle.scheduler.specs.Ledger.{Answer, asked, state_of}
use Rattle.scheduler.specs.Seen.{seen, terms_of}
use Rattle.scheduler.specs.Stepped.{Situation, Stepped}
use Rattle.scheduler.specs.Steps.{Answers, Terms}
use Rattle.posting.specs.declared.posting.Cause.{Cause}
use Rattle.posting.specs.declared.posting.Game.{Game}
use Rattle.posting.specs.declared.posting.Outcome.TheVariants.{Posted, GivenUp}
use Rattle.posting.specs.declared.posting.Posting.{Posting}
use Rattle.posting.specs.declared.posting.Stage.{Stage}
use Rattle.posting.specs.declared.posting.Stage.TheVariants.{Fresh, ToRead, ToWrite, ToCommit, ToRetry, ToGiveUp, ToAbort}
use Rattle.posting.specs.declared.posting.Turn.{Turn}
use Rattle.posting.specs.declared.posting.Turn.TheVariants.{Going, Told}
use Rattle.posting.specs.Turns.{next, request}

-- the number of its ticket
abbrev pub number : Stage → Option ℕ
number Fresh = None
number (ToRead k) = Some k.number
number (ToWrite k total) = Some k.number
number (ToCommit k) = Some k.number
number (ToRetry k) = Some k.number
number (ToGiveUp k) = Some k.number
number (ToAbort k c) = Some k.number

-- t is closed, and nothing of it is pending
pub record Gone (t : ℕ) (n : Situation) : Type 0 where
  pub is_closed : state_of t n.ledger.opens ≡ None
  pub nothing_pending : (i : ℕ) → n.pending t i ≡ None

-- from one situation to the next by the one call that the posting p makes, which comes to r
pub record Taken (ok : Rule) (k : Terms) (pair : Option Refusal) (s n : Situation) (p : Posting) (r : Turn) : Type 0 where
  pub answer : Answer
  pub answers : Answers ok k pair s.ledger s.committed s.pending (request p) answer
  pub step : Stepped (asked s.ledger (request p)) answer s n
  pub turn : r ≡ next p answer
  pub posted_only_if_committed : r ≡ Told Posted → (t : ℕ) × (number p.stage ≡ Some t) × (answer ≡ Ok (Committed t))
  pub given_up_leaves_nothing : (c : Cause) → r ≡ Told (GivenUp c) → (t : ℕ) × (number p.stage ≡ Some t) × Gone t n

-- the posting p makes its call of the scheduler c, which becomes n, and comes to r
abbrev pub TakenBy : {S R : Type 0} → a_store.Ghosts S → a_rule.Ghosts R → Scheduler S R → Scheduler S R → Posting → Turn → Type 0
TakenBy s r c n p t = Taken (r.allows c.rule) (terms_of s) c.refusal (seen s c) (seen s n) p t

-- a bound on the steps that are left
abbrev pub left : Game → Stage → ℕ
left g Fresh = 5 + 3 * g.retries
left g (ToRead k) = 4 + 3 * g.retries
left g (ToWrite k total) = 3 + 3 * g.retries
left g (ToCommit k) = 2 + 3 * g.retries
left g (ToRetry k) = 4 + 3 * g.retries
left g (ToGiveUp k) = 1
left g (ToAbort k c) = 1

abbrev pub steps_left : Posting → ℕ
steps_left p = left p.game p.stage

abbrev pub turn_left : Turn → ℕ
turn_left (Going q) = steps_left q
turn_left (Told o) = 0

abbrev pub Sooner : Posting → Turn → Type 0
Sooner p r = turn_left r < steps_left p
