-- What always holds of the list of locks and of the list of open transactions.
use Rattle.std.specs.Prelude.{ℕ, Bool, true, not, ◌&&◌, ◌||◌, List, [], ◌∷◌, ◌==◌, nat_le, nat_lt}
use Rattle.scheduler.specs.declared.lock.Kind.TheVariants.{Read, Write}
use Rattle.scheduler.specs.declared.lock.Lock.{Lock}
use Rattle.scheduler.specs.declared.transaction.State.TheVariants.{Active}
use Rattle.scheduler.specs.declared.transaction.Transaction.{Transaction}
use Rattle.scheduler.specs.Ledger.{lock, same_kind, transaction}

-- what a read past the end gives
abbrev pub no_lock : Lock
no_lock = lock 0 0 Read

abbrev pub no_transaction : Transaction
no_transaction = transaction 0 Active

-- the lock m, standing behind l, is the same lock once more, or a read lock behind another's write lock on one item
abbrev pub clashes : Lock → Lock → Bool
clashes l m =
    (l.item == m.item)
    && ((l.owner == m.owner && same_kind l.kind m.kind) || (not (l.owner == m.owner) && (same_kind l.kind Write && same_kind m.kind Read)))

abbrev pub clear_of : Lock → List Lock → Bool
clear_of l [] = true
clear_of l (m ∷ ms) = not (clashes l m) && clear_of l ms

-- a transaction has at most one lock of a kind on an item, and no read lock stands behind another transaction's write lock on one item
abbrev pub orderly : List Lock → Bool
orderly [] = true
orderly (l ∷ ls) = clear_of l ls && orderly ls

-- the numbers rise, from above low up to last
abbrev pub rising : ℕ → ℕ → List Transaction → Bool
rising low last [] = true
rising low last (o ∷ os) = (nat_lt low o.number && nat_le o.number last) && rising o.number last os
