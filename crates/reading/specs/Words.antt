-- What is printed of a file.
use Rattle.std.specs.Prelude.{ℕ, List, ◌++◌, codes}
use Rattle.std.specs.Fmt.{decimal}
use Rattle.records.specs.Refusals.{reason_name}
use Rattle.records.specs.Words.{request_text}
use Rattle.records.specs.declared.refusal.Reason.{Reason}
use Rattle.records.specs.declared.refusal.Reason.TheVariants.{InputTooLong}
use Rattle.reading.specs.declared.file.Ending.{Ending}
use Rattle.reading.specs.declared.file.Ending.TheVariants.{Whole, Refused}
use Rattle.reading.specs.declared.file.Placed.{Placed}

abbrev pub placed_text : Placed → List ℕ
placed_text p = codes "place " ++ (decimal p.place ++ (codes ": " ++ request_text p.request))

-- a refusal at a place, or of the whole file
abbrev pub refused_text : Reason → ℕ → List ℕ
refused_text InputTooLong place = codes "too long: nothing of the file is read"
refused_text reason place = reason_name reason ++ (codes " at place " ++ (decimal place ++ codes ": nothing from there on is read"))

abbrev pub ending_text : Ending → List ℕ
ending_text Whole = codes "the file is whole"
ending_text (Refused e place) = refused_text e.reason place
