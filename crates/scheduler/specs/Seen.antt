-- A scheduler as its contracts see it: by its store's meaning, its rule and its tables.
use Rattle.std.specs.Prelude.{◌≡◌, ℕ, List, length, Option, Result}
use Rattle.records.specs.declared.refusal.Refusal.{Refusal}
use Rattle.records.specs.declared.request.Request.{Request}
use Rattle.store.specs.declared.store.Store as a_store
use Rattle.store.specs.Meaning.{held_count}
use Rattle.scheduler.specs.declared.rule.LockRule as a_rule
use Rattle.scheduler.specs.declared.scheduler.Scheduler.{Scheduler}
use Rattle.scheduler.specs.declared.transaction.Ask.{Ask}
use Rattle.scheduler.specs.Blockers.{blockers}
use Rattle.scheduler.specs.Ledger.{Answer, asked}
use Rattle.scheduler.specs.Situations.{situation}
use Rattle.scheduler.specs.Stepped.{Situation, Stepped}
use Rattle.scheduler.specs.Steps.{Answers, Done, Placed, Task, Terms, granted, no_item, pair_refusal, terms}
use Rattle.scheduler.specs.Tables.{ledger_of}

-- what a store fixes beside its values
abbrev pub terms_of : {S : Type 0} → a_store.Ghosts S → Terms
terms_of s = terms s.private s.room s.share

-- why a rule over a store is refused, if it is
abbrev pub refusal_of : {S R : Type 0} → a_store.Ghosts S → a_rule.Ghosts R → S → R → Option Refusal
refusal_of s r store rule = pair_refusal (r.allows rule) s.private (held_count (s.pending store) (length (s.committed store)))

-- the tables and the store's values and pending writes
abbrev pub seen : {S R : Type 0} → a_store.Ghosts S → Scheduler S R → Situation
seen s c = situation c.tables (s.committed c.store) (s.pending c.store)

-- a is an answer of the scheduler c to the request q
abbrev pub Answered : {S R : Type 0} → a_store.Ghosts S → a_rule.Ghosts R → Scheduler S R → Request → Answer → Type 0
Answered s r c q a = Answers (r.allows c.rule) (terms_of s) c.refusal (ledger_of c.tables) (s.committed c.store) (s.pending c.store) q a

-- what t is answered where nobody blocks what it asks for
abbrev pub granted_by : {S R : Type 0} → a_store.Ghosts S → Scheduler S R → ℕ → Ask → Answer
granted_by s c t x = granted (terms_of s) (ledger_of c.tables) (s.committed c.store) (s.pending c.store) t x

-- who blocks what t asks for
abbrev pub blockers_in : {S R : Type 0} → a_rule.Ghosts R → Scheduler S R → ℕ → Ask → List ℕ
blockers_in r c t x = blockers (r.allows c.rule) (ledger_of c.tables).locks t x

-- a is an answer to t, who asks for x
abbrev pub Tries : {S R : Type 0} → a_store.Ghosts S → a_rule.Ghosts R → Scheduler S R → ℕ → Ask → Answer → Type 0
Tries s r c t x a = Placed (r.allows c.rule) (terms_of s) (ledger_of c.tables) (s.committed c.store) (s.pending c.store) t x (no_item (length (s.committed c.store)) x) a

-- a is an answer to a task, or the refusal in its place
abbrev pub Does : {S R : Type 0} → a_store.Ghosts S → a_rule.Ghosts R → Scheduler S R → Result Task Refusal → Answer → Type 0
Does s r c task a = Done (r.allows c.rule) (terms_of s) (ledger_of c.tables) (s.committed c.store) (s.pending c.store) task a

-- the scheduler c becomes n by the answer a to a call that asked for x
abbrev pub Moved : {S R : Type 0} → a_store.Ghosts S → Scheduler S R → Option Ask → Answer → Scheduler S R → Type 0
Moved s c x a n = Stepped x a (seen s c) (seen s n)

-- the scheduler c becomes n by the answer a to the request q
abbrev pub Called : {S R : Type 0} → a_store.Ghosts S → Scheduler S R → Request → Answer → Scheduler S R → Type 0
Called s c q a n = Moved s c (asked (ledger_of c.tables) q) a n

-- the scheduler c was opened over the store and the rule: the rule, the pair's refusal, and where the store's memory lies
abbrev pub OpenedOver : {S R : Type 0} → a_store.Ghosts S → a_rule.Ghosts R → S → R → Scheduler S R → Type 0
OpenedOver s r store rule c = (c.rule ≡ rule) × (c.refusal ≡ refusal_of s r store rule) × (s.place c.store ≡ s.place store)

-- what no call changes: the rule, the pair's refusal, and where the store's memory lies
abbrev pub Kept : {S R : Type 0} → a_store.Ghosts S → Scheduler S R → Scheduler S R → Type 0
Kept s c n = (n.rule ≡ c.rule) × (n.refusal ≡ c.refusal) × (s.place n.store ≡ s.place c.store)
