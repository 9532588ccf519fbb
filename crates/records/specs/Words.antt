-- What is printed of requests and answers.
use Rattle.std.specs.Prelude.{ℕ, List, ◌++◌, codes}
use Rattle.std.specs.Fmt.{decimal, signed_decimal}
use Rattle.records.specs.declared.answer.Activity.{Activity}
use Rattle.records.specs.declared.answer.Activity.TheVariants.{Active, Waiting}
use Rattle.records.specs.declared.answer.Answer.{Answer}
use Rattle.records.specs.declared.answer.Answer.TheVariants.{Opened, Value, Written, Committed, Aborted, Wait, Deadlock, Refused, StillOpen, Holds}
use Rattle.records.specs.declared.request.Request.{Request}
use Rattle.records.specs.declared.request.Request.TheVariants.{Begin, Read, Write, Commit, Abort, Retry}

abbrev pub activity_name : Activity → List ℕ
activity_name Active = codes "active"
activity_name Waiting = codes "waiting"

abbrev pub request_text : Request → List ℕ
request_text Begin = codes "a transaction begins"
request_text (Read t item) = codes "transaction " ++ (decimal t ++ (codes " reads item " ++ decimal item))
request_text (Write t item value) = codes "transaction " ++ (decimal t ++ (codes " writes " ++ (signed_decimal value ++ (codes " to item " ++ decimal item))))
request_text (Commit t) = codes "transaction " ++ (decimal t ++ codes " commits")
request_text (Abort t) = codes "transaction " ++ (decimal t ++ codes " aborts")
request_text (Retry t) = codes "transaction " ++ (decimal t ++ codes " retries the request it waits with")

abbrev pub answer_text : Answer → List ℕ
answer_text (Opened t) = codes "transaction " ++ (decimal t ++ codes " is open")
answer_text (Value t item value) = codes "transaction " ++ (decimal t ++ (codes " finds " ++ (signed_decimal value ++ (codes " in item " ++ decimal item))))
answer_text (Written t item) = codes "transaction " ++ (decimal t ++ (codes " has written item " ++ decimal item))
answer_text (Committed t) = codes "transaction " ++ (decimal t ++ codes " has committed")
answer_text (Aborted t) = codes "transaction " ++ (decimal t ++ codes " has aborted")
answer_text (Wait t blocker) = codes "transaction " ++ (decimal t ++ (codes " waits for transaction " ++ decimal blocker))
answer_text (Deadlock t) = codes "transaction " ++ (decimal t ++ codes " is ended by a deadlock")
answer_text (Refused layer number place) = codes "refused with " ++ (decimal number ++ (codes " by layer " ++ (decimal layer ++ (codes ": the request at place " ++ decimal place))))
answer_text (StillOpen t state) = codes "transaction " ++ (decimal t ++ (codes " is still open and " ++ activity_name state))
answer_text (Holds item value) = codes "item " ++ (decimal item ++ (codes " holds " ++ signed_decimal value))
