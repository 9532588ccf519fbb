-- What a value store means: committed values, and pending writes with no order among them.
use Rattle.std.specs.Borrow.{GName}
use Rattle.std.specs.Prelude.{◌≡◌, ℕ, zero, suc, ◌+◌, ◌<◌, ◌≤◌, Bool, true, false, cond, not, ◌&&◌, ◌||◌, List, [], ◌∷◌, length, ℤ, pos, is_some, Some, None, Ok, Err, Option, Result, ◌==◌, nat_le, slice_index_or}
use Rattle.records.specs.declared.refusal.Layer.TheVariants.{Store as store_layer}
use Rattle.records.specs.declared.refusal.Reason.{Reason}
use Rattle.records.specs.declared.refusal.Reason.TheVariants.{ItemTaken, NoRoom, NoSuchItem}
use Rattle.records.specs.declared.refusal.Refusal.{Refusal}
use Rattle.std.specs.Option.{unwrap_or}

-- by transaction and item, the value that is pending there
abbrev pub Writes : Type 0
Writes = ℕ → ℕ → Option ℤ

abbrev pub nothing : Writes
nothing t i = None

-- a value becomes the pending one of the pair t, i
abbrev pub written : Writes → ℕ → ℕ → ℤ → Writes
written p t i v u j = cond (u == t && j == i) (Some v) (p u j)

-- the pending writes of t are gone
abbrev pub without : Writes → ℕ → Writes
without p t u i = cond (u == t) None (p u i)

-- the values cs with one row of pending values over them
abbrev pub laid : (ℕ → Option ℤ) → List ℤ → List ℤ
laid row [] = []
laid row (c ∷ cs) = unwrap_or (row 0) c ∷ laid (λ i. row (suc i)) cs

-- Sums and searches over the numbers below n. They stay shut, since some n are large.
unfoldable pub sum_below : (ℕ → ℕ) → ℕ → ℕ
sum_below f zero = 0
sum_below f (suc n) = f n + sum_below f n

abbrev pub count_below : (ℕ → Bool) → ℕ → ℕ
count_below q n = sum_below (λ i. cond (q i) 1 0) n

unfoldable pub any_below : (ℕ → Bool) → ℕ → Bool
any_below q zero = false
any_below q (suc n) = q n || any_below q n

-- how many of the items below n have a pending write of t
abbrev pub row_count : Writes → ℕ → ℕ → ℕ
row_count p t n = count_below (λ i. is_some (p t i)) n

-- how many pending writes there are on the items below n; a transaction is a number of 16 bits
abbrev pub held_count : Writes → ℕ → ℕ
held_count p n = sum_below (λ t. row_count p t n) 65536

-- a transaction other than t has a pending write on i
abbrev pub taken : Writes → ℕ → ℕ → Bool
taken p t i = any_below (λ u. not (u == t) && is_some (p u i)) 65536

abbrev pub of_store : Reason → Refusal
of_store why = record { layer = store_layer; reason = why }

-- what a look answers
abbrev pub looked : List ℤ → Writes → ℕ → ℕ → Result ℤ Refusal
looked cs p t i = cond (nat_le (length cs) i) (Err (of_store NoSuchItem)) (Ok (unwrap_or (p t i) (slice_index_or cs i (pos 0))))

-- why a put is refused, if it is
abbrev pub refused : Bool → ℕ → ℕ → List ℤ → Writes → ℕ → ℕ → Option Refusal
refused private room share cs p t i =
    cond (nat_le (length cs) i) (Some (of_store NoSuchItem))
    (cond (not private && taken p t i) (Some (of_store ItemTaken))
    (cond (is_some (p t i)) None
    (cond (held_count p (length cs) == room || nat_le share (row_count p t (length cs))) (Some (of_store NoRoom)) None)))

abbrev pub answered : Option Refusal → Result (Unit {0}) Refusal
answered None = Ok tt
answered (Some why) = Err why

-- what holds of every store at all times
pub record Sound (private : Bool) (room share : ℕ) (cs : List ℤ) (p : Writes) : Type 0 where
  pub narrow : length cs ≤ 65536
  pub within : (t i : ℕ) → is_some (p t i) ≡ true → (t < 65536) × (i < length cs)
  pub single : private ≡ false → (t u i : ℕ) → is_some (p t i) ≡ true → is_some (p u i) ≡ true → t ≡ u
  pub fits : held_count p (length cs) ≤ room
  pub shares : (t : ℕ) → row_count p t (length cs) ≤ share

-- where a store's memory lies: the names of the loans that it stands on, and the values there that are no items
pub record Place : Type 0 where
  pub home : List GName
  pub outside : List ℤ
