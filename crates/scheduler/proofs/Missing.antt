-- What it says that a lock is missing, and that there is room for it.
use Rattle.std.proofs.Common.{◌≡◌, ℕ, Bool, true, false, cond, not, ◌&&◌, is_some, Some, None, Ok, Err, Option, refl, arith}
use Rattle.records.specs.declared.refusal.Reason.TheVariants.{LockListFull}
use Rattle.scheduler.specs.declared.lock.Kind.{Kind}
use Rattle.scheduler.specs.declared.lock.Lock.{Lock}
use Rattle.scheduler.specs.Ledger.{Ledger, lock, missing, serves}
use Rattle.scheduler.specs.Steps.{full, of_scheduler, with_room}

module _ (t i : ℕ) (k : Kind) (L : Ledger) where
  -- where it was not refused
  pub has_room : (m : Option Lock) → Ok m ≡ with_room (missing t i k L.locks) L → ((not (serves t i k L.locks) && full L) ≡ false) × (missing t i k L.locks ≡ m)
  has_room m = go (serves t i k L.locks) (full L)
    where
      go : (s f : Bool) → Ok m ≡ cond (is_some (cond s None (Some (lock t i k))) && f) (Err (of_scheduler LockListFull)) (Ok (cond s None (Some (lock t i k)))) → ((not s && f) ≡ false) × (cond s None (Some (lock t i k)) ≡ m)
      go true f e = (refl, cc)
      go false false e = (refl, cc)
      go false true e = let z : ◌≡◌ {A = ℕ} 0 1 = cc in absurd (omega arith)
