-- The history of a run, read off its answers, and its two properties. Histories have the newest event first.
use Rattle.std.specs.Prelude.{◌≡◌, ℕ, Bool, cond, ◌⊎◌, List, [], ◌∷◌, ◌++◌, map, Ok, Err, MatchBool, ◌≢◌}
use Rattle.scheduler.specs.declared.lock.Kind.TheVariants.{Write}
use Rattle.scheduler.specs.declared.reply.Reply.TheVariants.{Opened, Value, Written, Committed, Aborted, Wait, Deadlock}
use Rattle.scheduler.specs.Ledger.{Answer, holds}
use Rattle.scheduler.specs.Blockers.{In}
use Rattle.history.specs.Run.{Run, Entry, ledger}
use Rattle.history.specs.Serial.{Act, got, put, acts}

pub data Event : Type 0 where
  read : ℕ → ℕ → Event
  wrote : ℕ → ℕ → Event
  commit : ℕ → Event
  abort : ℕ → Event

-- the items that acts wrote
abbrev pub items_put : List Act → List ℕ
items_put [] = []
items_put (got i v ∷ as') = items_put as'
items_put (put i v ∷ as') = i ∷ items_put as'

-- no number stands in the list twice
abbrev pub Once : List ℕ → Type 0
Once [] = Unit {0}
Once (i ∷ is) = (In i is → ⊥) × Once is

-- each item that t wrote, once, in any order
pub record Arranged (as' : List Act) (is : List ℕ) : Type 0 where
  pub once : Once is
  pub each : (i : ℕ) → In i (items_put as') → In i is
  pub only : (i : ℕ) → In i is → In i (items_put as')

-- the events that an answer shows after the run r: in a private store a transaction's write events stand directly before its commit
abbrev pub Shows : Bool → Run → Answer → List Event → Type 0
Shows private r (Ok (Opened t)) es = es ≡ []
Shows private r (Ok (Value t i v)) es = es ≡ cond (holds t i Write (ledger r).locks) [] (read t i ∷ [])
Shows private r (Ok (Written t i)) es = es ≡ cond private [] (wrote t i ∷ [])
Shows private r (Ok (Committed t)) es = MatchBool private ((is : List ℕ) × Arranged (acts r t) is × (es ≡ commit t ∷ map (wrote t) is)) (es ≡ commit t ∷ [])
Shows private r (Ok (Aborted t)) es = es ≡ abort t ∷ []
Shows private r (Ok (Wait t b)) es = es ≡ []
Shows private r (Ok (Deadlock t)) es = es ≡ abort t ∷ []
Shows private r (Err e) es = es ≡ []

-- h is a history of the run
pub data History (private : Bool) : Run → List Event → Type 0 where
  none : History private [] []
  more : {r : Run} {h : List Event} (e : Entry) (es : List Event) → History private r h → Shows private r e.answer es → History private (e ∷ r) (es ++ h)

-- t's read or write of the item i
abbrev pub Touches : ℕ → ℕ → Event → Type 0
Touches t i (read u j) = (u ≡ t) × (j ≡ i)
Touches t i (wrote u j) = (u ≡ t) × (j ≡ i)
Touches t i (commit u) = ⊥
Touches t i (abort u) = ⊥

abbrev pub IsWrite : Event → Type 0
IsWrite (read u j) = ⊥
IsWrite (wrote u j) = Unit {0}
IsWrite (commit u) = ⊥
IsWrite (abort u) = ⊥

-- t commits or aborts in the list
abbrev pub Ends : ℕ → List Event → Type 0
Ends t h = In (commit t) h ⊎ In (abort t) h

-- d stands in the history h, and e later
pub record Later (d e : Event) (h : List Event) : Type 0 where
  pub since : List Event
  pub between : List Event
  pub before : List Event
  pub split : h ≡ since ++ e ∷ (between ++ d ∷ before)

-- after t's write of an item, no other's read or write of it comes before t's commit or abort
abbrev pub Strict : List Event → Type 0
Strict h = (t u i : ℕ) (e : Event) (o : Later (wrote t i) e h) → Touches u i e → (u ≢ t) → Ends t o.between

-- of two events of two committed transactions on one item, at least one a write, the commits stand in the order of the events
abbrev pub CommitOrdered : List Event → Type 0
CommitOrdered h =
    (t u i : ℕ) (d e : Event) → Later d e h → Touches t i d → Touches u i e → (u ≢ t) → IsWrite d ⊎ IsWrite e
    → In (commit t) h → In (commit u) h → Later (commit t) (commit u) h
