-- What belongs to transactions other than one.
use Rattle.std.specs.Prelude.{ℕ, Bool, not, ◌==◌}

-- x does not belong to t
abbrev pub of_others : {T : Type 0} → (T → ℕ) → ℕ → T → Bool
of_others owner t x = not (owner x == t)
