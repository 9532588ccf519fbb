-- The law that every run keeps.
use Rattle.std.specs.Prelude.{◌≡◌, ℕ, Bool, true, List, ℤ, is_some}
use Rattle.scheduler.specs.Ledger.{state_of}
use Rattle.scheduler.specs.Blockers.{Rule, Waits}
use Rattle.history.specs.Run.{Run, ledger}
use Rattle.history.specs.Serial.{acts, commits, serial, SerialReadsRight}
use Rattle.history.specs.Events.{Event, History, Strict, CommitOrdered}

-- t is open by the ledger of the run
abbrev pub Open : Run → ℕ → Type 0
Open r t = is_some (state_of t (ledger r).opens) ≡ true

-- t is open, and waits for nobody
pub record Free (ok : Rule) (r : Run) (t : ℕ) : Type 0 where
  pub is_open : Open r t
  pub waits_for_nobody : (u : ℕ) → Waits ok (ledger r) t u → ⊥

-- of a run under the rule ok over a store, whose committed values were vs at opening and are ws now
pub record Law (ok : Rule) (private : Bool) (vs : List ℤ) (r : Run) (ws : List ℤ) : Type 0 where
  -- run alone in the order of their commits, the committed transactions read what they were answered
  pub reads_replay_in_commit_order : SerialReadsRight (acts r) vs (commits r)
  -- and leave what the store holds
  pub commits_leave_the_store : ws ≡ serial (acts r) vs (commits r)
  -- the run has a history
  pub has_history : (h : List Event) × History private r h
  -- each of its histories is strict and commit-ordered
  pub is_strict : (h : List Event) → History private r h → Strict h
  pub is_commit_ordered : (h : List Event) → History private r h → CommitOrdered h
  -- while any transaction is open, one of them waits for nobody
  pub someone_waits_for_nobody : (t : ℕ) → Open r t → (z : ℕ) × Free ok r z
