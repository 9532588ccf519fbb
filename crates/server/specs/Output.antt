-- What goes out for what comes in.
use Rattle.std.specs.Prelude.{◌≡◌, ℕ, List, ◌++◌, map, length, replicate, ℤ, pos, None, Option, nat_lt}
use Rattle.std.specs.List.Sorted.{IsPermutation}
use Rattle.records.specs.declared.refusal.Refusal.{Refusal}
use Rattle.records.specs.declared.request.Request.{Request}
use Rattle.reading.specs.Held.{requests_in}
use Rattle.reading.specs.declared.file.Placed.{Placed}
use Rattle.store.specs.declared.store.Store as a_store
use Rattle.store.specs.Meaning.{Writes, laid, nothing}
use Rattle.scheduler.specs.declared.rule.LockRule as a_rule
use Rattle.scheduler.specs.declared.scheduler.Scheduler.{Scheduler}
use Rattle.scheduler.specs.Blockers.{Rule}
use Rattle.scheduler.specs.Ledger.{Answer, Ledger}
use Rattle.scheduler.specs.Seen.{refusal_of, terms_of}
use Rattle.scheduler.specs.Steps.{Terms}
use Rattle.scheduler.specs.Tables.{ledger_of}
use Rattle.scheduler.specs.declared.transaction.Transaction.{Transaction}
use Rattle.history.specs.Ran.{Ran}
use Rattle.history.specs.Run.{Run, committed_of, ledger, pending_of, run_of}
use Rattle.cases.specs.Servers.{Server}
use Rattle.server.specs.Told.{bytes_of, closing, ended, told_all}

abbrev pub requests_of : List Placed → List Request
requests_of = map (λ q. q.request)

-- the input's requests with their answers
abbrev pub run_over : List ℕ → List Answer → Run
run_over input as' = run_of (requests_of (requests_in input).0) as'

-- the answers alone, written behind one another: the run left the tables L
pub record Answered (ok : Rule) (k : Terms) (refusal : Option Refusal) (vs : List ℤ) (p : Writes) (input output : List ℕ) (L : Ledger) (ws : List ℤ) (p' : Writes) : Type 0 where
  pub answers : List Answer
  pub ran : Ran ok k refusal vs p (requests_of (requests_in input).0) answers L ws p'
  pub written : output ≡ bytes_of (told_all (requests_in input).0 answers ++ ended (requests_in input).1)

-- the bytes that went out for those that came in, over a store whose values and pending writes were vs and p
pub record Output (ok : Rule) (k : Terms) (refusal : Option Refusal) (vs : List ℤ) (p : Writes) (input output : List ℕ) : Type 0 where
  -- the answers to the requests that the input holds: the steps define them, and the law over whole runs holds of them
  pub answers : List Answer
  pub ran : Ran ok k refusal vs p (requests_of (requests_in input).0) answers (ledger (run_over input answers)) (committed_of vs p (run_over input answers)) (pending_of p (run_over input answers))
  -- the open transactions, in any order
  pub opens : List Transaction
  pub opens_are_all : IsPermutation (ledger (run_over input answers)).opens opens
  -- the values that the transaction 0 sees; where nothing was pending at opening, the committed ones
  pub shown : List ℤ
  pub shown_to_nobody : shown ≡ laid (pending_of p (run_over input answers) 0) (committed_of vs p (run_over input answers))
  pub shown_are_committed : ((t i : ℕ) → p t i ≡ None) → shown ≡ committed_of vs p (run_over input answers)
  -- the output is the writing of the answers, of the ending, and of the closing records
  pub written : output ≡ bytes_of (told_all (requests_in input).0 answers ++ (ended (requests_in input).1 ++ closing (nat_lt 60000 (length input)) opens shown))

-- a scheduler over the store and the rule answered the input alone, and was left as c
abbrev pub AnsweredOver : {S R : Type 0} → a_store.Ghosts S → a_rule.Ghosts R → S → R → List ℕ → List ℕ → Scheduler S R → Type 0
AnsweredOver s r store rule input output c =
    Answered (r.allows rule) (terms_of s) (refusal_of s r store rule) (s.committed store) (s.pending store) input output (ledger_of c.tables) (s.committed c.store) (s.pending c.store)

-- what goes out where a scheduler over the store and the rule serves the input
abbrev pub OutputOver : {S R : Type 0} → a_store.Ghosts S → a_rule.Ghosts R → S → R → List ℕ → List ℕ → Type 0
OutputOver s r store rule = Output (r.allows rule) (terms_of s) (refusal_of s r store rule) (s.committed store) (s.pending store)

-- what goes out of the server s, which starts with 1,024 zeros
abbrev pub Outputs : Server → List ℕ → List ℕ → Type 0
Outputs s input output = Output s.rule s.terms None (replicate 1024 (pos 0)) nothing input output
