-- Who stands in the way of a request, who waits for whom, and a chain of waits.
use Rattle.std.specs.Prelude.{◌≡◌, ℕ, Bool, cond, not, ◌&&◌, List, [], ◌∷◌, Some, ◌==◌}
use Rattle.scheduler.specs.declared.lock.Kind.{Kind}
use Rattle.scheduler.specs.declared.lock.Kind.TheVariants.{Read, Write}
use Rattle.scheduler.specs.declared.lock.Lock.{Lock}
use Rattle.scheduler.specs.declared.transaction.Ask.{Ask}
use Rattle.scheduler.specs.declared.transaction.Ask.TheVariants.{Read as ask_read, Write as ask_write, Commit as ask_commit}
use Rattle.scheduler.specs.declared.transaction.State.TheVariants.{Waiting}
use Rattle.scheduler.specs.Ledger.{Ledger, same_kind, holds, state_of}

-- a lock rule: may the first kind be asked for beside another transaction's lock of the second kind
abbrev pub Rule : Type 0
Rule = Kind → Kind → Bool

-- x is one of the list
pub data In {A : Type 0} (x : A) : List A → Type 0 where
  first : {xs : List A} → In x (x ∷ xs)
  later : {y : A} {xs : List A} → In x xs → In x (y ∷ xs)

-- l is another transaction's lock on the item, and the rule says no to the kind k beside it
abbrev pub bars : Rule → ℕ → ℕ → Kind → Lock → Bool
bars ok t i k l = not (l.owner == t) && (l.item == i && not (ok k l.kind))

-- the holders of such locks
abbrev pub barring : Rule → ℕ → ℕ → Kind → List Lock → List ℕ
barring ok t i k [] = []
barring ok t i k (l ∷ ls) = cond (bars ok t i k l) (l.owner ∷ barring ok t i k ls) (barring ok t i k ls)

-- l is another transaction's read lock
abbrev pub reads_beside : ℕ → Lock → Bool
reads_beside t l = not (l.owner == t) && same_kind l.kind Read

-- the holders of read locks that stand before t's write lock on the same item
abbrev pub ahead : ℕ → List Lock → List ℕ
ahead t [] = []
ahead t (l ∷ ls) = cond (reads_beside t l && holds t l.item Write ls) (l.owner ∷ ahead t ls) (ahead t ls)

-- the blockers of what t asks for
abbrev pub blockers : Rule → List Lock → ℕ → Ask → List ℕ
blockers ok ls t (ask_read i) = cond (holds t i Write ls) [] (barring ok t i Read ls)
blockers ok ls t (ask_write i v) = barring ok t i Write ls
blockers ok ls t ask_commit = ahead t ls

-- u waits for v: u is waiting, and v is now a blocker of what u holds
pub record Waits (ok : Rule) (L : Ledger) (u v : ℕ) : Type 0 where
  pub ask : Ask
  pub state : state_of u L.opens ≡ Some (Waiting ask)
  pub blocker : In v (blockers ok L.locks u ask)

-- a chain of waits leads from the first to the second
pub data Chain (ok : Rule) (L : Ledger) : ℕ → ℕ → Type 0 where
  here : {u : ℕ} → Chain ok L u u
  on : {u w : ℕ} (v : ℕ) → Waits ok L u v → Chain ok L v w → Chain ok L u w
