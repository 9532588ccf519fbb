-- The worked cases.
use Rattle.std.specs.Prelude.{List, [], ◌∷◌, ℤ, pos, slice_set}
use Rattle.records.specs.declared.request.Request.TheVariants.{Read, Write, Commit, Retry}
use Rattle.scheduler.specs.declared.lock.Kind.TheVariants.{Write as write_kind}
use Rattle.scheduler.specs.declared.reply.Reply.TheVariants.{Committed}
use Rattle.scheduler.specs.Ledger.{lock}
use Rattle.cases.specs.Servers.{Both, in_place_server, private_server}
use Rattle.cases.specs.Scripts.{Leaves, Locks, Plays, Script, aborts, begins, commits, deadlocks, gets, reads, waits, writes}

-- the transactions 1 and 2 begin
abbrev pub two_begin : Script → Script
two_begin es = begins 1 ∷ begins 2 ∷ es

-- 2 writes the item that 1 has read
abbrev pub written_past_a_reader : ℤ → Script → Script
written_past_a_reader v es = two_begin (reads 1 5 (pos 0) ∷ writes 2 5 v ∷ es)

-- the commit of 2 waits for 1; once 1 has committed, the retry of 2 is granted
abbrev pub commit_after_the_reader : ℤ → Script
commit_after_the_reader v = written_past_a_reader v (waits (Commit 2) 2 1 ∷ commits 1 ∷ gets (Retry 2) (Committed 2) ∷ [])

-- 1 wants to write it too and waits for 2, so the commit of 2, which would wait for 1, is a deadlock
abbrev pub reader_waits_to_write : ℤ → ℤ → Script
reader_waits_to_write v w = written_past_a_reader v (waits (Write 1 5 w) 1 2 ∷ deadlocks (Commit 2) 2 ∷ [])

-- 1 writes it too, and the commit of 2 waits for 1
abbrev pub reader_writes_too : ℤ → ℤ → Script
reader_writes_too v w = written_past_a_reader v (writes 1 5 w ∷ waits (Commit 2) 2 1 ∷ [])

-- each wants to read what the other has written
abbrev pub crossed_reads : ℤ → ℤ → Script
crossed_reads v w = two_begin (writes 1 3 v ∷ writes 2 4 w ∷ waits (Read 1 4) 1 2 ∷ deadlocks (Read 2 3) 2 ∷ [])

-- each has written what the other had read, and wants to commit
abbrev pub crossed_commits : ℤ → ℤ → Script
crossed_commits v w = written_past_a_reader v (reads 2 6 (pos 0) ∷ writes 1 6 w ∷ waits (Commit 1) 1 2 ∷ deadlocks (Commit 2) 2 ∷ [])

-- a transaction reads what it has written
abbrev pub read_back : ℤ → Script
read_back v = begins 1 ∷ writes 1 5 v ∷ reads 1 5 v ∷ []

-- 1 wants to read it again, and waits for 2
abbrev pub read_again : ℤ → Script
read_again v = written_past_a_reader v (waits (Read 1 5) 1 2 ∷ [])

-- both write one item; 2 commits first, and then 1
abbrev pub both_write : Script
both_write = two_begin (writes 1 5 (pos 1) ∷ writes 2 5 (pos 2) ∷ commits 2 ∷ commits 1 ∷ [])

-- a transaction writes an item twice, and aborts
abbrev pub written_and_aborted : Script
written_and_aborted = begins 1 ∷ writes 1 5 (pos 7) ∷ writes 1 5 (pos 9) ∷ aborts 1 ∷ []

-- from the values vs, with nothing pending
pub record WorkedCases (vs : List ℤ) : Type 0 where
  pub a_commit_waits_for_a_reader : Both (λ s. (v : ℤ) → Plays s vs (commit_after_the_reader v))
  pub a_write_waits_in_place : (v w : ℤ) → Plays in_place_server vs (reader_waits_to_write v w)
  pub a_write_is_granted_privately : (v w : ℤ) → Plays private_server vs (reader_writes_too v w)
  pub crossed_reads_deadlock : Both (λ s. (v w : ℤ) → Plays s vs (crossed_reads v w))
  pub crossed_commits_deadlock_in_place : (v w : ℤ) → Plays in_place_server vs (crossed_commits v w)
  -- the own value, and one lock
  pub an_own_write_is_read : Both (λ s. (v : ℤ) → Plays s vs (read_back v) × Locks (read_back v) (lock 1 5 write_kind ∷ []))
  pub a_read_waits_for_a_writer : Both (λ s. (v : ℤ) → Plays s vs (read_again v))
  -- what 1 wrote stays, which commits last
  pub the_later_commit_stays_privately : Plays private_server vs both_write × Leaves vs both_write (slice_set vs 5 (pos 1))
  -- the starting value is back
  pub an_abort_undoes_in_place : Plays in_place_server vs written_and_aborted × Leaves vs written_and_aborted vs
