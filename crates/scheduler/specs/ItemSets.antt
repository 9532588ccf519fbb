-- A list of sets of 64 places as one set of items.
use Rattle.std.specs.Prelude.{ℕ, ◌/◌, ◌%◌, Bool, List, slice_index_or}
use Rattle.scheduler.specs.declared.places.Places.{Places}
use Rattle.scheduler.specs.Bits.{has}

abbrev pub no_places : Places
no_places = record { bits = 0 }

abbrev pub has_item : List Places → ℕ → Bool
has_item ws x = has (slice_index_or ws (x / 64) no_places).bits (x % 64)
