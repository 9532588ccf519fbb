-- The requests that a file holds, each with its place, and how the file ends.
use Rattle.std.specs.Prelude.{ℕ, zero, suc, ◌+◌, ◌-◌, cond, List, [], ◌∷◌, length, Ok, Err, nat_lt}
use Rattle.records.specs.Layout.{Reading}
use Rattle.records.specs.RequestRecords.{read_request, request_bytes}
use Rattle.records.specs.declared.refusal.Layer.TheVariants.{Records}
use Rattle.records.specs.declared.refusal.Reason.TheVariants.{InputTooLong}
use Rattle.records.specs.declared.refusal.Refusal.{Refusal}
use Rattle.records.specs.declared.request.Request.{Request}
use Rattle.reading.specs.declared.file.Ending.{Ending}
use Rattle.reading.specs.declared.file.Ending.TheVariants.{Whole, Refused}
use Rattle.reading.specs.declared.file.Placed.{Placed}

abbrev pub Held : Type 0
Held = List Placed × Ending

-- what is read at the place p: a request, with what `more` finds once the rest of its bytes are passed over, or a refusal
abbrev pub next : ℕ → Reading Request → (ℕ → Held) → Held
next p (Ok r) more = (record { place = p; request = r.0 } ∷ (more (length (request_bytes r.0) - 1)).0, (more (length (request_bytes r.0) - 1)).1)
next p (Err e) more = ([], Refused e p)

-- what the bytes hold, the first of them at the place p, once the first `skip` of them are passed over
abbrev pub held : ℕ → ℕ → List ℕ → Held
held skip p [] = ([], Whole)
held zero p (b ∷ bs) = next p (read_request (b ∷ bs)) (λ skip. held skip (p + 1) bs)
held (suc skip) p (b ∷ bs) = held skip (p + 1) bs

abbrev pub too_long : Refusal
too_long = record { layer = Records; reason = InputTooLong }

abbrev pub requests_in : List ℕ → Held
requests_in bs = cond (nat_lt 60000 (length bs)) ([], Refused too_long 0) (held 0 0 bs)
