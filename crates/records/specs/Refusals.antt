-- The numbers and the words by which layers and refusals are told.
use Rattle.std.specs.Prelude.{ℕ, List, ◌++◌, codes}
use Rattle.std.specs.Fmt.{decimal}
use Rattle.records.specs.declared.refusal.Layer.{Layer}
use Rattle.records.specs.declared.refusal.Layer.TheVariants.{Records, Scheduler, Store}
use Rattle.records.specs.declared.refusal.Reason.{Reason}
use Rattle.records.specs.declared.refusal.Refusal.{Refusal}
use Rattle.records.specs.declared.refusal.Reason.TheVariants.{UnknownKind, BodyCutShort, InputTooLong, NotOpen, Waiting, NotWaiting, NoSuchItem, TooManyOpen, NumbersSpent, LockListFull, NoRoom, OutputTooShort, Pair, PendingAtOpening, ItemTaken}

abbrev pub layer_number : Layer → ℕ
layer_number Records = 1
layer_number Scheduler = 2
layer_number Store = 3

abbrev pub reason_number : Reason → ℕ
reason_number UnknownKind = 1
reason_number BodyCutShort = 2
reason_number InputTooLong = 3
reason_number NotOpen = 4
reason_number Waiting = 5
reason_number NotWaiting = 6
reason_number NoSuchItem = 7
reason_number TooManyOpen = 8
reason_number NumbersSpent = 9
reason_number LockListFull = 10
reason_number NoRoom = 11
reason_number OutputTooShort = 12
reason_number Pair = 13
reason_number PendingAtOpening = 14
reason_number ItemTaken = 15

abbrev pub layer_name : Layer → List ℕ
layer_name Records = codes "records"
layer_name Scheduler = codes "scheduler"
layer_name Store = codes "store"

abbrev pub reason_name : Reason → List ℕ
reason_name UnknownKind = codes "unknown kind"
reason_name BodyCutShort = codes "cut short"
reason_name InputTooLong = codes "too long"
reason_name NotOpen = codes "not open"
reason_name Waiting = codes "waiting"
reason_name NotWaiting = codes "not waiting"
reason_name NoSuchItem = codes "no such item"
reason_name TooManyOpen = codes "too many open"
reason_name NumbersSpent = codes "numbers spent"
reason_name LockListFull = codes "lock list full"
reason_name NoRoom = codes "no room"
reason_name OutputTooShort = codes "output too short"
reason_name Pair = codes "this rule does not suit this store"
reason_name PendingAtOpening = codes "pending writes at opening"
reason_name ItemTaken = codes "item taken"

-- the number of the reason, the reason, and the layer
abbrev pub refusal_text : Refusal → List ℕ
refusal_text r = decimal (reason_number r.reason) ++ (codes " " ++ (reason_name r.reason ++ (codes " (" ++ (layer_name r.layer ++ codes ")"))))
