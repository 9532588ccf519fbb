-- What an answer does to the store.
use Rattle.std.specs.Prelude.{List, ℤ, pos, Some, None, Ok, Err, Option}
use Rattle.store.specs.Meaning.{Writes, laid, without, written}
use Rattle.scheduler.specs.declared.transaction.Ask.{Ask}
use Rattle.scheduler.specs.declared.transaction.Ask.TheVariants.{Read, Write, Commit}
use Rattle.scheduler.specs.declared.reply.Reply.TheVariants.{Opened, Value, Written, Committed, Aborted, Wait, Deadlock}
use Rattle.scheduler.specs.Ledger.{Answer}

-- the value that a request asks to write
abbrev pub to_write : Option Ask → ℤ
to_write None = pos 0
to_write (Some (Read i)) = pos 0
to_write (Some (Write i v)) = v
to_write (Some Commit) = pos 0

-- the committed values after an answer: only a commit changes them
abbrev pub committed_after : Answer → List ℤ → Writes → List ℤ
committed_after (Ok (Opened t)) cs p = cs
committed_after (Ok (Value t i v)) cs p = cs
committed_after (Ok (Written t i)) cs p = cs
committed_after (Ok (Committed t)) cs p = laid (p t) cs
committed_after (Ok (Aborted t)) cs p = cs
committed_after (Ok (Wait t b)) cs p = cs
committed_after (Ok (Deadlock t)) cs p = cs
committed_after (Err e) cs p = cs

-- the pending writes after an answer to a call that asked for a
abbrev pub pending_after : Option Ask → Answer → Writes → Writes
pending_after a (Ok (Opened t)) p = p
pending_after a (Ok (Value t i v)) p = p
pending_after a (Ok (Written t i)) p = written p t i (to_write a)
pending_after a (Ok (Committed t)) p = without p t
pending_after a (Ok (Aborted t)) p = without p t
pending_after a (Ok (Wait t b)) p = p
pending_after a (Ok (Deadlock t)) p = without p t
pending_after a (Err e) p = p
