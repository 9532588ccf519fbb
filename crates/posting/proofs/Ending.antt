-- Each step leaves fewer to make.
use Rattle.std.proofs.Common.{◌≡◌, ℕ, ◌+◌, ◌-◌, ◌*◌, ◌<◌, ◌≤◌, Bool, true, false, cond, eqb, ℤ, ◌+ℤ◌, Ok, Err, sym, refl, subst, arith}
use Rattle.std.proofs.lemmas.Bool.{eqb-false}
use Rattle.records.specs.declared.refusal.Refusal.{Refusal}
use Rattle.scheduler.specs.Ledger.{Answer}
use Rattle.tickets.specs.declared.outcome.NotGranted.TheVariants.{Wait as not_wait, Deadlock as not_deadlock, Refused as not_refused}
use Rattle.tickets.specs.declared.outcome.Retried.{Retried}
use Rattle.tickets.specs.declared.outcome.Retried.TheVariants.{Value as retried_value, Written as retried_written, Committed as retried_committed}
use Rattle.tickets.specs.declared.ticket.Going.{Going}
use Rattle.tickets.specs.declared.ticket.Held.{Held}
use Rattle.tickets.specs.Outcomes.{Active, Outcome, Waiting, outcome_answer, retried_answer, retry_answer, write_answer}
use Rattle.posting.specs.declared.posting.Cause.TheVariants.{Overflow}
use Rattle.posting.specs.declared.posting.Game.{Game}
use Rattle.posting.specs.declared.posting.Posting.{Posting}
use Rattle.posting.specs.declared.posting.Stage.{Stage}
use Rattle.posting.specs.declared.posting.Stage.TheVariants.{ToWrite, ToRetry, ToGiveUp, ToAbort}
use Rattle.posting.specs.declared.posting.Turn.{Turn}
use Rattle.posting.specs.Taken.{Sooner, left, steps_left}
use Rattle.posting.specs.Turns.{active, at, game, is_value, next, refused, summed, waiting, waits}

left-summed : (g : Game) (t : ℕ) (total : ℤ) → left g (summed t total) ≤ 3 + 3 * g.retries
left-summed g t total = go (is_value total)
  where
    go : (b : Bool) → left g (cond b (ToWrite (active t) total) (ToAbort (active t) Overflow)) ≤ 3 + 3 * g.retries
    go true = omega arith
    go false = omega arith

left-waits : (g : Game) (t : ℕ) → steps_left (waits g t) < 2 + 3 * g.retries
left-waits g t = go (eqb g.retries 0) refl
  where
    go : (b : Bool) → eqb g.retries 0 ≡ b → steps_left (cond b (at g (ToGiveUp (waiting t))) (at (game g.team g.pins (g.retries - 1)) (ToRetry (waiting t)))) < 2 + 3 * g.retries
    go true e = omega arith
    go false e = let n = eqb-false g.retries 0 e in omega arith

-- of any call but a begin and an abort, from what its grant and a refusal of it make of the posting
pub sooner_outcome : {G S : Type 0} (p : Posting) (granted : G → Answer) (t : ℕ) (o : Outcome G S) → 2 + 3 * p.game.retries ≤ steps_left p → ((x : G) → Sooner p (next p (granted x))) → ((e : Refusal) → Sooner p (refused p.game p.stage e)) → Sooner p (next p (outcome_answer granted t o))
sooner_outcome p granted t (Ok x) h grant refusal = grant x
sooner_outcome p granted t (Err (not_wait k b)) h grant refusal = let w = left-waits p.game t in omega arith
sooner_outcome p granted t (Err not_deadlock) h grant refusal = omega arith
sooner_outcome p granted t (Err (not_refused k e)) h grant refusal = refusal e

sooner_retried : (g : Game) (k : Waiting) (x : Retried) → Sooner (at g (ToRetry k)) (next (at g (ToRetry k)) (retried_answer k.number x))
sooner_retried g k (retried_value j i v) = let h = left-summed g k.number (v +ℤ g.pins) in omega arith
sooner_retried g k (retried_written j i) = omega arith
sooner_retried g k retried_committed = omega arith

pub sooner_write : (g : Game) (k : Active) (total : ℤ) (o : Outcome Active Going) → Sooner (at g (ToWrite k total)) (next (at g (ToWrite k total)) (write_answer k.number g.team o))
sooner_write g k total o = sooner_outcome (at g (ToWrite k total)) _ k.number o (omega arith) (λ j. omega arith) (λ e. omega arith)

pub sooner_retry : (g : Game) (k : Waiting) (o : Outcome Retried Held) → Sooner (at g (ToRetry k)) (next (at g (ToRetry k)) (retry_answer k.number o))
sooner_retry g k o = sooner_outcome (at g (ToRetry k)) _ k.number o (omega arith) (sooner_retried g k) (λ e. let h = left-waits g k.number in omega arith)

-- of a posting whose stage is known
pub sooner_at : (p : Posting) {r : Turn} (y : Stage) (a : Answer) → p.stage ≡ y → r ≡ next (at p.game y) a → Sooner (at p.game y) (next (at p.game y) a) → Sooner p r
sooner_at p {r} y a x e h = subst (λ (z : Stage). Sooner (at p.game z) r) (sym x) (subst (λ (w : Turn). Sooner (at p.game y) w) (sym e) h)
