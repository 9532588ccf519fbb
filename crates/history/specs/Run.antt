-- A run: the calls with their answers, the newest first, and the ledger that is fed with them.
use Rattle.std.specs.Prelude.{List, [], ◌∷◌, ℤ, Option}
use Rattle.records.specs.declared.refusal.Refusal.{Refusal}
use Rattle.records.specs.declared.request.Request.{Request}
use Rattle.store.specs.Meaning.{Writes}
use Rattle.scheduler.specs.Blockers.{Rule}
use Rattle.scheduler.specs.Effects.{committed_after, pending_after}
use Rattle.scheduler.specs.Ledger.{Answer, Ledger, asked, empty, feed}
use Rattle.scheduler.specs.Steps.{Answers, Terms}

pub record Entry : Type 0 where
  pub call : Request
  pub answer : Answer

abbrev pub Run : Type 0
Run = List Entry

-- the ledger starts empty
abbrev pub ledger : Run → Ledger
ledger [] = empty
ledger (e ∷ r) = feed (ledger r) e.call e.answer

-- calls and answers in their order, as a run behind the run r
abbrev pub onto : Run → List Request → List Answer → Run
onto r [] as' = r
onto r (q ∷ qs) [] = r
onto r (q ∷ qs) (a ∷ as') = onto (record { call = q; answer = a } ∷ r) qs as'

abbrev pub run_of : List Request → List Answer → Run
run_of qs as' = onto [] qs as'

-- the store's values and pending writes after a run, from vs and p at opening
abbrev pub pending_of : Writes → Run → Writes
pending_of p [] = p
pending_of p (e ∷ r) = pending_after (asked (ledger r) e.call) e.answer (pending_of p r)

abbrev pub committed_of : List ℤ → Writes → Run → List ℤ
committed_of vs p [] = vs
committed_of vs p (e ∷ r) = committed_after e.answer (committed_of vs p r) (pending_of p r)

-- each answer of the run is the one that the steps define at its time
abbrev pub Served : Rule → Terms → Option Refusal → List ℤ → Writes → Run → Type 0
Served ok k refusal vs p [] = Unit {0}
Served ok k refusal vs p (e ∷ r) = Answers ok k refusal (ledger r) (committed_of vs p r) (pending_of p r) e.call e.answer × Served ok k refusal vs p r
