-- How the two stores lie in the caller's slice, and what it holds.
use Rattle.std.specs.Prelude.{ℕ, zero, suc, List, ◌++◌, take, drop, ℤ, pos, Some, None, Option, slice_index_or}
use Rattle.std.specs.Option.{option_map}
use Rattle.store.specs.declared.table.Entry.{Entry}
use Rattle.store.specs.Entries.{found, image}
use Rattle.store.specs.Meaning.{Writes, laid}

abbrev pub items : List ℤ → List ℤ
items vs = take 1024 vs

-- the values of a slice that are no items
abbrev pub rest : List ℤ → List ℤ
rest vs = drop 1024 vs

-- in place: an entry is a before-image, which is the committed value meanwhile; the pending value is in the slice
abbrev pub committed_behind : List Entry → List ℤ → List ℤ
committed_behind es vs = laid (image es) (items vs)

abbrev pub pending_in : List Entry → List ℤ → Writes
pending_in es vs t i = option_map (λ _. slice_index_or vs i (pos 0)) (found es t i)

abbrev pub either : Option ℤ → Option ℤ → Option ℤ
either None b = b
either (Some v) b = Some v

-- what is pending on an item, whose ever it is
unfoldable pub some_below : (ℕ → Option ℤ) → ℕ → Option ℤ
some_below f zero = None
some_below f (suc n) = either (f n) (some_below f n)

abbrev pub anyone : Writes → ℕ → Option ℤ
anyone p i = some_below (λ t. p t i) 65536

-- what an in-place store's slice holds: every pending value over the committed ones, and then what are no items
abbrev pub in_place_slice : List ℤ → Writes → List ℤ → List ℤ
in_place_slice cs p outside = laid (anyone p) cs ++ outside

-- what a private store's slice holds
abbrev pub private_slice : List ℤ → List ℤ → List ℤ
private_slice cs outside = cs ++ outside
