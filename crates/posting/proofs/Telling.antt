-- What a step tells, from the answer to its call.
use Rattle.std.proofs.Common.{◌≡◌, ℕ, eqb, Some, None, Ok, Err, Option, Result, sym, refl, ap, ◌∙◌, subst}
use Rattle.std.proofs.lemmas.Bool.{cond-true, eq-eqb}
use Rattle.records.specs.declared.refusal.Refusal.{Refusal}
use Rattle.store.specs.Meaning.{Writes, without}
use Rattle.scheduler.specs.declared.reply.Reply.TheVariants.{Opened, Value, Written, Committed, Aborted, Wait, Deadlock}
use Rattle.scheduler.specs.declared.transaction.Ask.{Ask}
use Rattle.scheduler.specs.Blockers.{Rule}
use Rattle.scheduler.specs.Ledger.{Answer, Ledger, asked, state_of, struck}
use Rattle.scheduler.specs.Stepped.{Situation, Stepped}
use Rattle.scheduler.specs.Steps.{Answers, Terms}
use Rattle.scheduler.proofs.Opens.{closed_same}
use Rattle.tickets.specs.declared.outcome.NotGranted.TheVariants.{Wait as not_wait, Deadlock as not_deadlock, Refused as not_refused}
use Rattle.tickets.specs.declared.outcome.Retried.{Retried}
use Rattle.tickets.specs.declared.outcome.Retried.TheVariants.{Value as retried_value, Written as retried_written, Committed as retried_committed}
use Rattle.tickets.specs.Outcomes.{Outcome, abort_answer, outcome_answer, retried_answer}
use Rattle.posting.specs.declared.posting.Game.{Game}
use Rattle.posting.specs.declared.posting.Outcome.TheVariants.{Posted, GivenUp, NotOpened, AbortRefused}
use Rattle.posting.specs.declared.posting.Posting.{Posting}
use Rattle.posting.specs.declared.posting.Stage.{Stage}
use Rattle.posting.specs.declared.posting.Stage.TheVariants.{Fresh, ToRead, ToWrite, ToCommit, ToRetry, ToGiveUp, ToAbort}
use Rattle.posting.specs.declared.posting.Turn.{Turn}
use Rattle.posting.specs.declared.posting.Turn.TheVariants.{Going, Told}
use Rattle.posting.specs.Taken.{Gone, Taken, number}
use Rattle.posting.specs.Turns.{at, cause, ended, next, refused, request}

-- if the answer ends a transaction, that is t
abbrev pub Ends : ℕ → Answer → Type 0
Ends t (Ok (Opened u)) = Unit {0}
Ends t (Ok (Value u i v)) = Unit {0}
Ends t (Ok (Written u i)) = Unit {0}
Ends t (Ok (Committed u)) = u ≡ t
Ends t (Ok (Aborted u)) = u ≡ t
Ends t (Ok (Wait u b)) = Unit {0}
Ends t (Ok (Deadlock u)) = u ≡ t
Ends t (Err e) = Unit {0}

-- whatever is not granted, and what is, if the answer of the grant does
pub ends_outcome : {G S : Type 0} (granted : G → Answer) (t : ℕ) (o : Outcome G S) → ((x : G) → Ends t (granted x)) → Ends t (outcome_answer granted t o)
ends_outcome granted t (Ok x) h = h x
ends_outcome granted t (Err (not_wait k b)) h = tt
ends_outcome granted t (Err not_deadlock) h = refl
ends_outcome granted t (Err (not_refused k e)) h = tt

pub ends_retried : (t : ℕ) (x : Retried) → Ends t (retried_answer t x)
ends_retried t (retried_value k i v) = tt
ends_retried t (retried_written k i) = tt
ends_retried t retried_committed = refl

pub ends_abort : (t : ℕ) (o : Result (Unit {0}) Refusal) → Ends t (abort_answer t o)
ends_abort t (Ok u) = refl
ends_abort t (Err e) = tt

-- what an abort tells is the next turn, of each stage at which a refusal is told as such
pub told : (p : Posting) (t : ℕ) (o : Result (Unit {0}) Refusal) {r : Turn} → ((e : Refusal) → refused p.game p.stage e ≡ Told (AbortRefused e)) → r ≡ ended (cause p.stage) o → r ≡ next p (abort_answer t o)
told p t (Ok u) f h = h
told p t (Err e) f h = h ∙ sym (f e)

gone : (t u : ℕ) (s n : Situation) → u ≡ t → n.ledger ≡ struck u s.ledger → n.pending ≡ without s.pending u → Gone t n
gone t u s n e l p =
    let l' : n.ledger ≡ struck t s.ledger = subst (λ (w : ℕ). n.ledger ≡ struck w s.ledger) e l in
    let p' : n.pending ≡ without s.pending t = subst (λ (w : ℕ). n.pending ≡ without s.pending w) e p in
    record {
      is_closed = ap (λ (L : Ledger). state_of t L.opens) l' ∙ closed_same t s.ledger.opens;
      nothing_pending = λ i. ap (λ (q : Writes). q t i) p' ∙ cond-true (eqb t t) None (s.pending t i) (eq-eqb t t refl);
    }

-- what holds where the answer a has led to that turn
abbrev Says : ℕ → Answer → Situation → Turn → Type 0
Says t a n (Going q) = Unit {0}
Says t a n (Told Posted) = a ≡ Ok (Committed t)
Says t a n (Told (GivenUp c)) = Gone t n
Says t a n (Told (NotOpened e)) = Unit {0}
Says t a n (Told (AbortRefused e)) = Unit {0}

says_refused : (t : ℕ) (a : Answer) (n : Situation) (g : Game) (s : Stage) (e : Refusal) → Says t a n (refused g s e)
says_refused t a n g Fresh e = tt
says_refused t a n g (ToRead k) e = tt
says_refused t a n g (ToWrite k total) e = tt
says_refused t a n g (ToCommit k) e = tt
says_refused t a n g (ToRetry k) e = tt
says_refused t a n g (ToGiveUp k) e = tt
says_refused t a n g (ToAbort k c) e = tt

says : (p : Posting) (x : Option Ask) (s n : Situation) (t : ℕ) (a : Answer) → Ends t a → Stepped x a s n → Says t a n (next p a)
says p x s n t (Ok (Opened u)) h m = tt
says p x s n t (Ok (Value u i v)) h m = tt
says p x s n t (Ok (Written u i)) h m = tt
says p x s n t (Ok (Committed u)) h m = ap (λ (w : ℕ). Ok (Committed w)) h
says p x s n t (Ok (Aborted u)) h m = gone t u s n h m.ledger m.pending
says p x s n t (Ok (Wait u b)) h m = tt
says p x s n t (Ok (Deadlock u)) h m = gone t u s n h m.ledger m.pending
says p x s n t (Err e) h m = says_refused t (Err e) n p.game p.stage e

taken : (ok : Rule) (k : Terms) (pair : Option Refusal) (s n : Situation) (p : Posting) (t : ℕ) (a : Answer) (r : Turn) → number p.stage ≡ Some t → Ends t a → Answers ok k pair s.ledger s.committed s.pending (request p) a → Stepped (asked s.ledger (request p)) a s n → r ≡ next p a → Taken ok k pair s n p r
taken ok k pair s n p t a r own ends h m e =
    let told : Says t a n r = subst (λ (w : Turn). Says t a n w) (sym e) (says p _ s n t a ends m) in
    record {
      answer = a;
      answers = h;
      step = m;
      turn = e;
      posted_only_if_committed = λ q. (t, own, subst (λ (w : Turn). Says t a n w) q told);
      given_up_leaves_nothing = λ c q. (t, own, subst (λ (w : Turn). Says t a n w) q told);
    }

-- the same of a posting whose stage is known
pub taken_at : {ok : Rule} {k : Terms} {pair : Option Refusal} {s n : Situation} {p : Posting} {r : Turn} (y : Stage) (t : ℕ) (a : Answer) → p.stage ≡ y → number y ≡ Some t → Ends t a → Answers ok k pair s.ledger s.committed s.pending (request (at p.game y)) a → Stepped (asked s.ledger (request (at p.game y))) a s n → r ≡ next (at p.game y) a → Taken ok k pair s n p r
taken_at {ok} {k} {pair} {s} {n} {p} {r} y t a x own ends h m e = subst (λ (z : Stage). Taken ok k pair s n (at p.game z) r) (sym x) (taken ok k pair s n (at p.game y) t a r own ends h m e)
