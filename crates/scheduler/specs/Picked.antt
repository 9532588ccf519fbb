-- One of a list, any, or none where the list is empty.
use Rattle.std.specs.Prelude.{◌≡◌, ℕ, List, [], Some, None, Option}
use Rattle.scheduler.specs.Blockers.{In}

abbrev pub Picked : Option ℕ → List ℕ → Type 0
Picked None bs = bs ≡ []
Picked (Some b) bs = In b bs
