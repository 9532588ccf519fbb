-- Ways over the places below 64.
use Rattle.std.specs.Prelude.{◌≡◌, ℕ, ◌<◌, ◌≤◌, Bool, true, false, List, slice_index_or}
use Rattle.scheduler.specs.declared.places.Places.{Places}
use Rattle.scheduler.specs.Bits.{has}
use Rattle.scheduler.specs.ItemSets.{no_places}

-- from a place to the places whose row has it
abbrev pub back : List Places → ℕ → ℕ → Bool
back rows a b = has (slice_index_or rows b no_places).bits a

-- a way by the edges of e from a to the index
pub data Way (e : ℕ → ℕ → Bool) (a : ℕ) : ℕ → Type 0 where
  start : Way e a a
  next : {b : ℕ} (c : ℕ) → Way e a b → c < 64 → e b c ≡ true → Way e a c

-- the places of m, and those whose row has one of them
pub record Widened (rows : List Places) (m n : ℕ) : Type 0 where
  pub more : m ≤ n
  pub kept : (p : ℕ) → has m p ≡ true → has n p ≡ true
  pub led : (p : ℕ) → has n p ≡ true → has m p ≡ false → (p < 64) × ((a : ℕ) × (has m a ≡ true) × (back rows a p ≡ true))
  pub full : (a p : ℕ) → p < 64 → has m a ≡ true → back rows a p ≡ true → has n p ≡ true
