-- What each answer tells of the state that it was given in, as far as the law needs it.
use Rattle.std.proofs.Common.{◌≡◌, ℕ, ◌+◌, true, List, [], ℤ, is_some, Some, Ok, Err}
use Rattle.records.specs.declared.request.Request.{Request}
use Rattle.store.specs.Meaning.{Writes, looked}
use Rattle.scheduler.specs.declared.transaction.Ask.{Ask}
use Rattle.scheduler.specs.declared.transaction.Ask.TheVariants.{Read, Write, Commit}
use Rattle.scheduler.specs.declared.reply.Reply.TheVariants.{Opened, Value, Written, Committed, Aborted, Wait, Deadlock}
use Rattle.scheduler.specs.Ledger.{Ledger, Answer, asked, state_of}
use Rattle.scheduler.specs.Blockers.{Rule, In, Chain, blockers}

abbrev pub IsOpen : Ledger → ℕ → Type 0
IsOpen L t = is_some (state_of t L.opens) ≡ true

abbrev pub Facts : Rule → Ledger → List ℤ → Writes → Request → Answer → Type 0
Facts ok L cs p q (Ok (Opened t)) = t ≡ L.begins + 1
Facts ok L cs p q (Ok (Value t i v)) = IsOpen L t × (blockers ok L.locks t (Read i) ≡ []) × (looked cs p t i ≡ Ok v)
Facts ok L cs p q (Ok (Written t i)) = IsOpen L t × ((v : ℤ) × (blockers ok L.locks t (Write i v) ≡ []) × (asked L q ≡ Some (Write i v)))
Facts ok L cs p q (Ok (Committed t)) = IsOpen L t × (blockers ok L.locks t Commit ≡ [])
Facts ok L cs p q (Ok (Aborted t)) = IsOpen L t
Facts ok L cs p q (Ok (Wait t b)) = IsOpen L t × ((a : Ask) × (asked L q ≡ Some a) × ((c : ℕ) → In c (blockers ok L.locks t a) → Chain ok L c t → ⊥))
Facts ok L cs p q (Ok (Deadlock t)) = IsOpen L t
Facts ok L cs p q (Err e) = Unit {0}
