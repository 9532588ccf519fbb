use Rattle.std.proofs.Common.{◌≡◌, ℕ, [], length, drop, take}
use Rattle.std.specs.Iterator.Adapters.{rev_source}
use Rattle.std.specs.Slice.Iter.{iter_rest}
use Rattle.scheduler.specs.declared.lock.Kind.TheVariants.{Write}
use Rattle.scheduler.specs.Blockers.{ahead}
use Rattle.scheduler.specs.ItemSets.{has_item}
use Rattle.scheduler.specs.Ledger.{holds}
use Rattle.scheduler.proofs.search.ahead.Given as goal

abbrev pub invariant-loop-lock : goal.invariant-loop-lock
invariant-loop-lock l =
    let left = iter_rest (rev_source l.lock-iterator) in
    (left ≡ take (length left) l.locks)
    × (ahead l.t (drop (length left) l.locks) ≡ [])
    × ((x : ℕ) → has_item l.written.words x ≡ holds l.t x Write (drop (length left) l.locks))

abbrev pub decreases-loop-lock : goal.decreases-loop-lock
decreases-loop-lock l = length (iter_rest (rev_source l.lock-iterator))
