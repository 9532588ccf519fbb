-- What a server tells, as records and as bytes.
use Rattle.std.specs.Prelude.{ℕ, zero, suc, ◌+◌, Bool, true, false, cond, List, [], ◌∷◌, ◌++◌, map, ℤ, pos, negsuc, Ok, Err}
use Rattle.std.specs.List.{zip}
use Rattle.records.specs.AnswerRecords.{answer_bytes}
use Rattle.records.specs.Refusals.{layer_number, reason_number}
use Rattle.records.specs.declared.answer.Answer.{Answer as Record}
use Rattle.records.specs.declared.answer.Answer.TheVariants.{Refused as refused, Holds}
use Rattle.reading.specs.declared.file.Ending.{Ending}
use Rattle.reading.specs.declared.file.Ending.TheVariants.{Whole, Refused}
use Rattle.reading.specs.declared.file.Placed.{Placed}
use Rattle.scheduler.specs.Ledger.{Answer}
use Rattle.scheduler.specs.Recorded.{recorded, still_open}
use Rattle.scheduler.specs.declared.transaction.Transaction.{Transaction}

-- the record of the answer to the request at a place
abbrev pub told : ℕ → Answer → Record
told place (Ok r) = recorded r
told place (Err e) = refused (layer_number e.layer) (reason_number e.reason) place

-- each answer at the place of its request
abbrev pub told_all : List Placed → List Answer → List Record
told_all qs as' = map (λ (p : Placed × Answer). told p.0.place p.1) (zip qs as')

-- a file that is not read to its end has one refusal more
abbrev pub ended : Ending → List Record
ended Whole = []
ended (Refused e place) = told place (Err e) ∷ []

abbrev pub is_zero : ℤ → Bool
is_zero (pos zero) = true
is_zero (pos (suc n)) = false
is_zero (negsuc n) = false

-- the value of the item i, unless it is 0
abbrev pub held : ℕ → ℤ → List Record
held i v = cond (is_zero v) [] (Holds i v ∷ [])

-- the values other than 0, of the items from i on
abbrev pub holding : ℕ → List ℤ → List Record
holding i [] = []
holding i (v ∷ vs) = held i v ++ holding (i + 1) vs

-- the open transactions and the values; after an input that is too long, nothing
abbrev pub closing : Bool → List Transaction → List ℤ → List Record
closing too_long os vs = cond too_long [] (map still_open os ++ holding 0 vs)

-- records one after the other
abbrev pub bytes_of : List Record → List ℕ
bytes_of [] = []
bytes_of (r ∷ rs) = answer_bytes r ++ bytes_of rs
