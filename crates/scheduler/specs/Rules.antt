-- The three lock rules.
use Rattle.std.specs.Prelude.{Bool, true, false}
use Rattle.scheduler.specs.declared.lock.Kind.{Kind}
use Rattle.scheduler.specs.declared.lock.Kind.TheVariants.{Read, Write}

-- the kind asked for, then the kind held
abbrev pub writers_pass_readers : Kind → Kind → Bool
writers_pass_readers Read Read = true
writers_pass_readers Read Write = false
writers_pass_readers Write Read = true
writers_pass_readers Write Write = false

abbrev pub deferred_updates : Kind → Kind → Bool
deferred_updates Read Read = true
deferred_updates Read Write = false
deferred_updates Write Read = true
deferred_updates Write Write = true

abbrev pub rigorous : Kind → Kind → Bool
rigorous Read Read = true
rigorous Read Write = false
rigorous Write Read = false
rigorous Write Write = false
