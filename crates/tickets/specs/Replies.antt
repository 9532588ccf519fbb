-- The answers that a call of one transaction can have.
use Rattle.std.specs.Prelude.{◌≡◌, ℕ, ℤ, Ok, Err}
use Rattle.scheduler.specs.declared.reply.Reply.TheVariants.{Opened, Value, Written, Committed, Aborted, Wait, Deadlock}
use Rattle.scheduler.specs.declared.transaction.Ask.{Ask}
use Rattle.scheduler.specs.declared.transaction.Ask.TheVariants.{Read as ask_read, Write as ask_write, Commit as ask_commit}
use Rattle.scheduler.specs.Ledger.{Answer}

-- to t, and nothing is granted
abbrev pub GrantsNothing : ℕ → Answer → Type 0
GrantsNothing t (Ok (Opened u)) = ⊥
GrantsNothing t (Ok (Value u i v)) = ⊥
GrantsNothing t (Ok (Written u i)) = ⊥
GrantsNothing t (Ok (Committed u)) = ⊥
GrantsNothing t (Ok (Aborted u)) = ⊥
GrantsNothing t (Ok (Wait u b)) = u ≡ t
GrantsNothing t (Ok (Deadlock u)) = u ≡ t
GrantsNothing t (Err e) = Unit {0}

-- to what t asks for: its grant, or none
abbrev pub ToAsk : ℕ → Ask → Answer → Type 0
ToAsk t x (Ok (Value u i v)) = (u ≡ t) × (x ≡ ask_read i)
ToAsk t x (Ok (Written u i)) = (u ≡ t) × ((v : ℤ) × (x ≡ ask_write i v))
ToAsk t x (Ok (Committed u)) = (u ≡ t) × (x ≡ ask_commit)
ToAsk t x a = GrantsNothing t a
