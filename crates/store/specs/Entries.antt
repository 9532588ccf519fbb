-- The entries of a table, as a list.
use Rattle.std.specs.Prelude.{ℕ, zero, suc, min, Bool, true, cond, not, ◌&&◌, List, [], ◌∷◌, length, ℤ, pos, filter, find, Option, ◌==◌, nat_lt, slice_set}
use Rattle.std.specs.List.{list_all}
use Rattle.std.specs.Option.{option_map}
use Rattle.store.specs.declared.table.Entry.{Entry}
use Rattle.store.specs.Meaning.{Writes}

-- what a read past the end gives
abbrev pub blank : Entry
blank = record { owner = 0; item = 0; value = pos 0 }

abbrev pub entry : ℕ → ℕ → ℤ → Entry
entry t i v = record { owner = t; item = i; value = v }

-- the entries with another value at one place
abbrev pub revalued : List Entry → ℕ → ℤ → List Entry
revalued [] k v = []
revalued (e ∷ es) zero v = entry e.owner e.item v ∷ es
revalued (e ∷ es) (suc k) v = e ∷ revalued es k v

abbrev pub owned : ℕ → Entry → Bool
owned t e = e.owner == t

abbrev pub others : ℕ → Entry → Bool
others t e = not (owned t e)

abbrev pub is_on : ℕ → Entry → Bool
is_on i e = e.item == i

abbrev pub is_pair : ℕ → ℕ → Entry → Bool
is_pair t i e = owned t e && is_on i e

abbrev pub value_of : Entry → ℤ
value_of e = e.value

-- the value kept for a pair, and the value kept for an item
abbrev pub found : List Entry → Writes
found es t i = option_map value_of (find (is_pair t i) es)

abbrev pub image : List Entry → ℕ → Option ℤ
image es i = option_map value_of (find (is_on i) es)

-- how many entries are t's
abbrev pub count_of : ℕ → List Entry → ℕ
count_of t es = length (filter (owned t) es)

-- the values of t's entries put into their places
abbrev pub landed : ℕ → List Entry → List ℤ → List ℤ
landed t [] vs = vs
landed t (e ∷ es) vs = landed t es (cond (owned t e) (slice_set vs e.item e.value) vs)

-- no two entries clash
abbrev pub clear_of : (Entry → Entry → Bool) → Entry → List Entry → Bool
clear_of clash e es = list_all (λ f. not (clash e f)) es

abbrev pub apart : (Entry → Entry → Bool) → List Entry → Bool
apart clash [] = true
apart clash (e ∷ es) = clear_of clash e es && apart clash es

abbrev pub same_item : Entry → Entry → Bool
same_item e f = is_on e.item f

abbrev pub same_pair : Entry → Entry → Bool
same_pair e f = is_pair e.owner e.item f

-- each owner is a number of 16 bits, and each item is below n
abbrev pub in_bounds : ℕ → Entry → Bool
in_bounds n e = nat_lt e.owner 65536 && nat_lt e.item n

abbrev pub bounded : ℕ → List Entry → Bool
bounded n es = list_all (in_bounds n) es

-- how many items a slice has
abbrev pub size_of : List ℤ → ℕ
size_of vs = min 1024 (length vs)
