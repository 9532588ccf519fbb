-- A number as a set of places.
use Rattle.std.specs.Prelude.{ℕ, ◌/◌, ◌%◌, ◌^◌, Bool, ◌==◌}

-- the place p is in the set
abbrev pub has : ℕ → ℕ → Bool
has m p = m / 2 ^ p % 2 == 1
