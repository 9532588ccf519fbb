use Rattle.std.proofs.Common.{◌≡◌, ℕ, ◌++◌, codes, refl}
use Rattle.std.specs.Fmt.{decimal}
use Rattle.records.specs.Refusals.{reason_name}
use Rattle.records.specs.declared.refusal.Reason.{Reason}
use Rattle.records.specs.declared.refusal.Reason.TheVariants.{InputTooLong}
use Rattle.reading.specs.Words.{refused_text}
use Rattle.reading.proofs.file.EndingDisplay.fmt.Goals as goal

at_place : (r : Reason) (place : ℕ) → (r ≡ InputTooLong → ⊥) → refused_text r place ≡ reason_name r ++ (codes " at place " ++ (decimal place ++ codes ": nothing from there on is read"))
at_place InputTooLong place n = absurd (n refl)
at_place r place n = refl

pub returns-in_default : goal.returns-in_default
returns-in_default g c =
    record { writes = rw (c.in-Refused.is, at_place c.in-Refused.refusal.reason c.in-Refused.place c.in_default.not-InputTooLong) c.write.ensures.writes; styled = tt }
