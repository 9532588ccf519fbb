-- What is gathered of a block of items.
use Rattle.std.specs.Prelude.{◌≡◌, ℕ, Bool, true, false, ◌||◌, List, ◌==◌, slice_index_or, slice_set}
use Rattle.scheduler.specs.declared.holders.Holders.{Holders}
use Rattle.scheduler.specs.declared.lock.Kind.TheVariants.{Read, Write}
use Rattle.scheduler.specs.declared.lock.Lock.{Lock}
use Rattle.scheduler.specs.declared.places.Places.{Places}
use Rattle.scheduler.specs.declared.transaction.Transaction.{Transaction}
use Rattle.scheduler.specs.Bits.{has}
use Rattle.scheduler.specs.Edges.{Held}
use Rattle.scheduler.specs.ItemSets.{no_places}

-- h has the places of all that hold locks on the items of its block
pub record Holds (os : List Transaction) (ls : List Lock) (h : Holders) : Type 0 where
  pub readers : Held os ls h.block Read h.readers
  pub writers : Held os ls h.block Write h.writers

-- where put is true, the place p is added to the cell at j
abbrev pub Puts : Bool → List Places → List Places → ℕ → ℕ → Type 0
Puts false cells next j p = next ≡ cells
Puts true cells next j p = (c : Places) × (next ≡ slice_set cells j c) × ((q : ℕ) → has c.bits q ≡ (has (slice_index_or cells j no_places).bits q || p == q))
