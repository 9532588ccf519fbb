-- How numbers lie in bytes, when a record is whole, and what a writer leaves.
use Rattle.std.specs.Prelude.{◌≡◌, ℕ, zero, suc, ◌+◌, ◌*◌, ◌/◌, ◌%◌, ◌^◌, ◌<◌, ◌≤◌, cond, List, [], ◌∷◌, ◌++◌, length, drop, IfOk, Ok, Err, Result, MatchResult, nat_lt, slice_index}
use denote.Ref.{Bor}
use Rattle.records.specs.declared.refusal.Layer.TheVariants.{Records}
use Rattle.records.specs.declared.refusal.Reason.TheVariants.{UnknownKind, BodyCutShort, OutputTooShort}
use Rattle.records.specs.declared.refusal.Refusal.{Refusal}

-- the number that the n bytes of bs from i on make, high byte first
abbrev pub big_endian : ℕ → List ℕ → ℕ → ℕ
big_endian zero bs i = 0
big_endian (suc n) bs i = slice_index bs i * 256 ^ n + big_endian n bs (i + 1)

-- the n bytes of a number, high byte first
abbrev pub bytes : ℕ → ℕ → List ℕ
bytes zero x = []
bytes (suc n) x = (x / 256 ^ n % 256) ∷ bytes n x

abbrev pub unknown_kind : Refusal
unknown_kind = record { layer = Records; reason = UnknownKind }

abbrev pub cut_short : Refusal
cut_short = record { layer = Records; reason = BodyCutShort }

abbrev pub too_short : Refusal
too_short = record { layer = Records; reason = OutputTooShort }

-- what a reader gives: a record and the rest of the input, or a refusal
abbrev pub Reading : Type 0 → Type 0
Reading R = Result (R × List ℕ) Refusal

-- a record of n bytes, kind included, at the start of bs
abbrev pub whole : {R : Type 0} → ℕ → R → List ℕ → Reading R
whole n q bs = cond (nat_lt (length bs) n) (Err cut_short) (Ok (q, drop n bs))

-- a reader's answer is what the layout says: the record and the rest of the input, or the refusal
abbrev pub Reads : {R : Type 0} → Reading R → Result (R × Bor (List ℕ)) Refusal → Type 0
Reads said given = MatchResult given (λ p. said ≡ Ok (p.0, p.1.now)) (λ e. said ≡ Err e)

-- the bytes of the record that is read, and then the rest, are the input
abbrev pub WritesBack : {R : Type 0} → (R → List ℕ) → List ℕ → Result (R × Bor (List ℕ)) Refusal → Type 0
WritesBack bytes_of input given = IfOk given (λ p. bytes_of p.0 ++ p.1.now ≡ input)

-- a writer's answer, and the buffer before and after: the record's bytes, then what stood there, or nothing changed
abbrev pub AtStart : List ℕ → List ℕ → List ℕ → Result ℕ Refusal → Type 0
AtStart rec was is (Ok n) = (length rec ≤ length was) × (n ≡ length rec) × (is ≡ rec ++ drop (length rec) was)
AtStart rec was is (Err e) = (length was < length rec) × (e ≡ too_short) × (is ≡ was)
