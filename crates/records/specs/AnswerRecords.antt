-- The layout of answers.
use Rattle.std.specs.Prelude.{ℕ, cond, List, [], ◌∷◌, ◌++◌, length, drop, Ok, Err, ◌==◌, nat_lt, slice_index}
use Rattle.std.specs.Int.{w32}
use Rattle.std.proofs.Common.{to_z, of_z}
use Rattle.records.specs.Layout.{big_endian, bytes, unknown_kind, cut_short, Reading, whole}
use Rattle.records.specs.declared.answer.Activity.{Activity}
use Rattle.records.specs.declared.answer.Activity.TheVariants.{Active, Waiting}
use Rattle.records.specs.declared.answer.Answer.{Answer}
use Rattle.records.specs.declared.answer.Answer.TheVariants.{Opened, Value, Written, Committed, Aborted, Wait, Deadlock, Refused, StillOpen, Holds}

-- how long the body of an answer is
abbrev pub body_length : ℕ → ℕ
body_length k =
    cond (k == 17) 2
    (cond (k == 18) 8
    (cond (k == 19) 4
    (cond (k == 20) 2
    (cond (k == 21) 2
    (cond (k == 22) 4
    (cond (k == 23) 2
    (cond (k == 24) 6
    (cond (k == 25) 3
    (cond (k == 26) 6 0)))))))))

abbrev pub state_of : ℕ → Activity
state_of byte = cond (byte == 0) Active Waiting

abbrev pub state_byte : Activity → ℕ
state_byte Active = 0
state_byte Waiting = 1

-- an open transaction with its state byte: one above 1 is refused, once the body is whole
abbrev pub still_open : ℕ → List ℕ → Reading Answer
still_open state bs =
    cond (nat_lt (length bs) 4) (Err cut_short)
    (cond (nat_lt 1 state) (Err unknown_kind)
    (Ok (StillOpen (big_endian 2 bs 1) (state_of state), drop 4 bs)))

-- the answer that begins with the kind k
abbrev pub answer_of : ℕ → List ℕ → Reading Answer
answer_of k bs =
    cond (k == 17) (whole 3 (Opened (big_endian 2 bs 1)) bs)
    (cond (k == 18) (whole 9 (Value (big_endian 2 bs 1) (big_endian 2 bs 3) (to_z w32 (big_endian 4 bs 5))) bs)
    (cond (k == 19) (whole 5 (Written (big_endian 2 bs 1) (big_endian 2 bs 3)) bs)
    (cond (k == 20) (whole 3 (Committed (big_endian 2 bs 1)) bs)
    (cond (k == 21) (whole 3 (Aborted (big_endian 2 bs 1)) bs)
    (cond (k == 22) (whole 5 (Wait (big_endian 2 bs 1) (big_endian 2 bs 3)) bs)
    (cond (k == 23) (whole 3 (Deadlock (big_endian 2 bs 1)) bs)
    (cond (k == 24) (whole 7 (Refused (slice_index bs 1) (slice_index bs 2) (big_endian 4 bs 3)) bs)
    (cond (k == 25) (still_open (slice_index bs 3) bs)
    (cond (k == 26) (whole 7 (Holds (big_endian 2 bs 1) (to_z w32 (big_endian 4 bs 3))) bs)
    (Err unknown_kind))))))))))

abbrev pub read_answer : List ℕ → Reading Answer
read_answer [] = Err cut_short
read_answer (k ∷ bs) = answer_of k (k ∷ bs)

abbrev pub answer_bytes : Answer → List ℕ
answer_bytes (Opened t) = 17 ∷ bytes 2 t
answer_bytes (Value t item value) = 18 ∷ (bytes 2 t ++ (bytes 2 item ++ bytes 4 (of_z w32 value)))
answer_bytes (Written t item) = 19 ∷ (bytes 2 t ++ bytes 2 item)
answer_bytes (Committed t) = 20 ∷ bytes 2 t
answer_bytes (Aborted t) = 21 ∷ bytes 2 t
answer_bytes (Wait t blocker) = 22 ∷ (bytes 2 t ++ bytes 2 blocker)
answer_bytes (Deadlock t) = 23 ∷ bytes 2 t
answer_bytes (Refused layer number place) = 24 ∷ layer ∷ number ∷ bytes 4 place
answer_bytes (StillOpen t state) = 25 ∷ (bytes 2 t ++ (state_byte state ∷ []))
answer_bytes (Holds item value) = 26 ∷ (bytes 2 item ++ bytes 4 (of_z w32 value))
