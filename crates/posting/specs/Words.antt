-- What is printed of a posting.
use Rattle.std.specs.Prelude.{ℕ, List, ◌++◌, codes}
use Rattle.std.specs.Fmt.{decimal, signed_decimal}
use Rattle.records.specs.Refusals.{reason_name}
use Rattle.posting.specs.declared.posting.Cause.{Cause}
use Rattle.posting.specs.declared.posting.Cause.TheVariants.{Overflow, RetriesSpent, Refused, Deadlock}
use Rattle.posting.specs.declared.posting.Outcome.{Outcome}
use Rattle.posting.specs.declared.posting.Outcome.TheVariants.{Posted, GivenUp, NotOpened, AbortRefused}
use Rattle.posting.specs.declared.posting.Posting.{Posting}
use Rattle.posting.specs.declared.posting.Stage.{Stage}
use Rattle.posting.specs.declared.posting.Stage.TheVariants.{Fresh, ToRead, ToWrite, ToCommit, ToRetry, ToGiveUp, ToAbort}

abbrev pub cause_text : Cause → List ℕ
cause_text Overflow = codes "the new total is out of range"
cause_text RetriesSpent = codes "no retry is left"
cause_text (Refused e) = codes "refused, " ++ reason_name e.reason
cause_text Deadlock = codes "deadlock"

abbrev pub outcome_text : Outcome → List ℕ
outcome_text Posted = codes "the game is posted"
outcome_text (GivenUp c) = codes "the game is given up: " ++ cause_text c
outcome_text (NotOpened e) = codes "the game is not begun: " ++ reason_name e.reason
outcome_text (AbortRefused e) = codes "nothing is known of the game: " ++ reason_name e.reason

abbrev pub stage_text : Stage → List ℕ
stage_text Fresh = codes "not begun"
stage_text (ToRead k) = codes "transaction " ++ (decimal k.number ++ codes " is open")
stage_text (ToWrite k total) = codes "the new total will be " ++ signed_decimal total
stage_text (ToCommit k) = codes "the new total is written"
stage_text (ToRetry k) = codes "waits"
stage_text (ToGiveUp k) = codes "waits, and has no retry left"
stage_text (ToAbort k c) = codes "gives up: " ++ cause_text c

abbrev pub posting_text : Posting → List ℕ
posting_text p = stage_text p.stage
