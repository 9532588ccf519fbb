-- Calls with their answers in their order, and that a server answers so and not otherwise.
use Rattle.std.specs.Prelude.{◌≡◌, ℕ, List, [], ◌∷◌, length, ℤ, None, Ok, Option}
use Rattle.records.specs.declared.refusal.Refusal.{Refusal}
use Rattle.records.specs.declared.request.Request.{Request}
use Rattle.records.specs.declared.request.Request.TheVariants.{Begin, Read, Write, Commit, Abort}
use Rattle.store.specs.Meaning.{held_count, nothing}
use Rattle.scheduler.specs.declared.lock.Lock.{Lock}
use Rattle.scheduler.specs.declared.reply.Reply.{Reply}
use Rattle.scheduler.specs.declared.reply.Reply.TheVariants.{Opened, Value, Written, Committed, Aborted, Wait, Deadlock}
use Rattle.scheduler.specs.Ledger.{Answer}
use Rattle.scheduler.specs.Steps.{pair_refusal}
use Rattle.history.specs.Run.{Entry, Run, Served, committed_of, ledger, pending_of, run_of}
use Rattle.cases.specs.Servers.{Server}

abbrev pub Script : Type 0
Script = List Entry

abbrev pub gets : Request → Reply → Entry
gets q r = record { call = q; answer = Ok r }

abbrev pub begins : ℕ → Entry
begins t = gets Begin (Opened t)

abbrev pub reads : ℕ → ℕ → ℤ → Entry
reads t i v = gets (Read t i) (Value t i v)

abbrev pub writes : ℕ → ℕ → ℤ → Entry
writes t i v = gets (Write t i v) (Written t i)

abbrev pub commits : ℕ → Entry
commits t = gets (Commit t) (Committed t)

abbrev pub aborts : ℕ → Entry
aborts t = gets (Abort t) (Aborted t)

-- t is told to wait for u
abbrev pub waits : Request → ℕ → ℕ → Entry
waits q t u = gets q (Wait t u)

-- t is ended by a deadlock
abbrev pub deadlocks : Request → ℕ → Entry
deadlocks q t = gets q (Deadlock t)

abbrev pub calls : Script → List Request
calls [] = []
calls (e ∷ es) = e.call ∷ calls es

abbrev pub answers : Script → List Answer
answers [] = []
answers (e ∷ es) = e.answer ∷ answers es

abbrev pub played : Script → Run
played es = run_of (calls es) (answers es)

-- what the server's pair of rule and store is refused with, where nothing is pending over the values vs
abbrev pub pair_of : Server → List ℤ → Option Refusal
pair_of s vs = pair_refusal s.rule s.terms.private (held_count nothing (length vs))

-- from the values vs with nothing pending, the calls qs are answered by as'
abbrev pub Serves : Server → List ℤ → List Request → List Answer → Type 0
Serves s vs qs as' = Served s.rule s.terms (pair_of s vs) vs nothing (run_of qs as')

-- the script's calls are answered by its answers, and by no others
pub record Plays (s : Server) (vs : List ℤ) (es : Script) : Type 0 where
  pub served : Serves s vs (calls es) (answers es)
  pub only : (as' : List Answer) → length as' ≡ length (calls es) → Serves s vs (calls es) as' → as' ≡ answers es

-- and leave the locks ls
abbrev pub Locks : Script → List Lock → Type 0
Locks es ls = (ledger (played es)).locks ≡ ls

-- and leave the committed values ws, and nothing pending
pub record Leaves (vs : List ℤ) (es : Script) (ws : List ℤ) : Type 0 where
  pub committed : committed_of vs nothing (played es) ≡ ws
  pub none_pending : (t i : ℕ) → pending_of nothing (played es) t i ≡ None
