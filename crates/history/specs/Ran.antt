-- What a run of calls from an opening comes to.
use Rattle.std.specs.Prelude.{◌≡◌, ℕ, List, length, ℤ, None, Option}
use Rattle.records.specs.declared.refusal.Refusal.{Refusal}
use Rattle.records.specs.declared.request.Request.{Request}
use Rattle.store.specs.declared.store.Store as a_store
use Rattle.store.specs.Meaning.{Writes}
use Rattle.scheduler.specs.declared.rule.LockRule as a_rule
use Rattle.scheduler.specs.declared.scheduler.Scheduler.{Scheduler}
use Rattle.scheduler.specs.Blockers.{Rule}
use Rattle.scheduler.specs.Ledger.{Answer, Ledger}
use Rattle.scheduler.specs.Seen.{refusal_of, terms_of}
use Rattle.scheduler.specs.Steps.{Terms}
use Rattle.scheduler.specs.Tables.{ledger_of}
use Rattle.history.specs.Run.{Served, committed_of, ledger, pending_of, run_of}
use Rattle.history.specs.Law.{Law, Open}

-- from the store's values vs and pending writes p at opening, the calls qs were answered by as', and left the tables L, the values ws and the pending writes p'
pub record Ran (ok : Rule) (k : Terms) (refusal : Option Refusal) (vs : List ℤ) (p : Writes) (qs : List Request) (as' : List Answer) (L : Ledger) (ws : List ℤ) (p' : Writes) : Type 0 where
  -- each call has its answer
  pub answered : length as' ≡ length qs
  -- which is the one that the steps define
  pub served : Served ok k refusal vs p (run_of qs as')
  -- the tables are the ledger
  pub tables : L ≡ ledger (run_of qs as')
  pub values : ws ≡ committed_of vs p (run_of qs as')
  pub writes : p' ≡ pending_of p (run_of qs as')
  -- where nothing was pending at opening, a pending write is of an open transaction
  pub only_the_open_have_writes : ((t i : ℕ) → p t i ≡ None) → (t i : ℕ) → (Open (run_of qs as') t → ⊥) → p' t i ≡ None
  -- and the law over the whole run holds
  pub law : Law ok k.private vs (run_of qs as') ws

-- a scheduler is opened over the store and the rule; the calls qs were answered by as', and left the scheduler c
abbrev pub RanOver : {S R : Type 0} → a_store.Ghosts S → a_rule.Ghosts R → S → R → List Request → List Answer → Scheduler S R → Type 0
RanOver s r store rule qs as' c =
    Ran (r.allows rule) (terms_of s) (refusal_of s r store rule) (s.committed store) (s.pending store) qs as' (ledger_of c.tables) (s.committed c.store) (s.pending c.store)
