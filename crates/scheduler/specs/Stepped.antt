-- How an answer leaves the tables and the store.
use Rattle.std.specs.Prelude.{◌≡◌, List, ℤ, Option}
use Rattle.store.specs.Meaning.{Writes}
use Rattle.scheduler.specs.declared.transaction.Ask.{Ask}
use Rattle.scheduler.specs.Effects.{committed_after, pending_after}
use Rattle.scheduler.specs.Ledger.{Answer, Ledger, fed}

-- tables and store at a time
pub record Situation : Type 0 where
  pub ledger : Ledger
  pub committed : List ℤ
  pub pending : Writes

-- from one situation to the next by the answer r to a call that asked for x
pub record Stepped (x : Option Ask) (r : Answer) (s n : Situation) : Type 0 where
  pub ledger : n.ledger ≡ fed s.ledger x r
  pub committed : n.committed ≡ committed_after r s.committed s.pending
  pub pending : n.pending ≡ pending_after x r s.pending
