-- What is printed of a run.
use Rattle.std.specs.Prelude.{ℕ, List, ◌++◌, codes, Ok, Err}
use Rattle.records.specs.Refusals.{refusal_text}
use Rattle.records.specs.Words.{answer_text}
use Rattle.scheduler.specs.Ledger.{Answer}
use Rattle.scheduler.specs.Recorded.{recorded}

abbrev pub answered_text : Answer → List ℕ
answered_text (Ok r) = answer_text (recorded r)
answered_text (Err e) = codes "refused: " ++ refusal_text e
