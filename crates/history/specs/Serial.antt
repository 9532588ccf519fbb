-- The committed transactions, run alone one after another in the order of their commits.
use Rattle.std.specs.Prelude.{◌≡◌, ℕ, cond, List, [], ◌∷◌, ◌++◌, ℤ, pos, Ok, Err, Option, ◌==◌, slice_index_or, slice_set}
use Rattle.scheduler.specs.declared.transaction.Ask.{Ask}
use Rattle.scheduler.specs.declared.reply.Reply.TheVariants.{Opened, Value, Written, Committed, Aborted, Wait, Deadlock}
use Rattle.scheduler.specs.Ledger.{Answer, asked}
use Rattle.scheduler.specs.Effects.{to_write}
use Rattle.history.specs.Run.{Run, ledger}

-- what a transaction did, by its answers: it read a value of an item, or wrote one
pub data Act : Type 0 where
  got : ℕ → ℤ → Act
  put : ℕ → ℤ → Act

-- t's act in one answer, where a is what the call asked for
abbrev pub act : ℕ → Option Ask → Answer → List Act
act t a (Ok (Opened u)) = []
act t a (Ok (Value u i v)) = cond (u == t) (got i v ∷ []) []
act t a (Ok (Written u i)) = cond (u == t) (put i (to_write a) ∷ []) []
act t a (Ok (Committed u)) = []
act t a (Ok (Aborted u)) = []
act t a (Ok (Wait u b)) = []
act t a (Ok (Deadlock u)) = []
act t a (Err e) = []

-- t's acts in a run, the newest first
abbrev pub acts : Run → ℕ → List Act
acts [] t = []
acts (e ∷ r) t = act t (asked (ledger r) e.call) e.answer ++ acts r t

abbrev pub commit_in : Answer → List ℕ
commit_in (Ok (Opened u)) = []
commit_in (Ok (Value u i v)) = []
commit_in (Ok (Written u i)) = []
commit_in (Ok (Committed u)) = u ∷ []
commit_in (Ok (Aborted u)) = []
commit_in (Ok (Wait u b)) = []
commit_in (Ok (Deadlock u)) = []
commit_in (Err e) = []

-- the committed transactions of a run, the newest commit first
abbrev pub commits : Run → List ℕ
commits [] = []
commits (e ∷ r) = commit_in e.answer ++ commits r

-- the values that acts leave, run alone from the values vs
abbrev pub after : List ℤ → List Act → List ℤ
after vs [] = vs
after vs (got i v ∷ as') = after vs as'
after vs (put i v ∷ as') = slice_set (after vs as') i v

-- run alone from vs, each read has the value that it was answered with
abbrev pub ReadsRight : List ℤ → List Act → Type 0
ReadsRight vs [] = Unit {0}
ReadsRight vs (got i v ∷ as') = (slice_index_or (after vs as') i (pos 0) ≡ v) × ReadsRight vs as'
ReadsRight vs (put i v ∷ as') = ReadsRight vs as'

-- the values that the transactions ts, each with the acts of f, leave when they are run one after another from vs
abbrev pub serial : (ℕ → List Act) → List ℤ → List ℕ → List ℤ
serial f vs [] = vs
serial f vs (t ∷ ts) = after (serial f vs ts) (f t)

abbrev pub SerialReadsRight : (ℕ → List Act) → List ℤ → List ℕ → Type 0
SerialReadsRight f vs [] = Unit {0}
SerialReadsRight f vs (t ∷ ts) = ReadsRight (serial f vs ts) (f t) × SerialReadsRight f vs ts
