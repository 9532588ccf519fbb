-- What is printed of the desk's turns.
use Rattle.std.specs.Prelude.{ℕ, List, ◌++◌, codes}
use Rattle.std.specs.Fmt.{decimal, signed_decimal}
use Rattle.records.specs.Refusals.{reason_name}
use Rattle.season.specs.declared.said.Said.{Said}
use Rattle.season.specs.declared.said.Said.TheVariants.{Opened, Total, Waits, Looks, Committed, Aborted, Deadlock, Refused}

abbrev pub said_text : Said → List ℕ
said_text (Opened t) = codes "transaction " ++ (decimal t ++ codes " is open")
said_text (Total total) = codes "the total is " ++ signed_decimal total
said_text (Waits t) = codes "waits for transaction " ++ decimal t
said_text Looks = codes "looks at the total"
said_text Committed = codes "has committed"
said_text Aborted = codes "has aborted"
said_text Deadlock = codes "is ended by a deadlock"
said_text (Refused e) = codes "refused, " ++ reason_name e.reason
