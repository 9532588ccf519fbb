-- How many turns are left to a lane and to the desk, at most.
use Rattle.std.specs.Prelude.{◌≡◌, ℕ, ◌+◌}
use Rattle.tickets.specs.declared.outcome.NotGranted.{NotGranted}
use Rattle.tickets.specs.declared.outcome.NotGranted.TheVariants.{Wait as not_wait, Deadlock as not_deadlock, Refused as not_refused}
use Rattle.tickets.specs.declared.ticket.Ticket.{Ticket}
use Rattle.tickets.specs.Outcomes.{Waiting}
use Rattle.posting.specs.Taken.{steps_left}
use Rattle.season.specs.declared.desk.Desk.{Desk}
use Rattle.season.specs.declared.desk.Desk.TheVariants.{Fresh, ToRead, ToRetry, Looking, ToCommit, ToAbort, ToLeave, Done as desk_done}
use Rattle.season.specs.declared.lane.Lane.{Lane}
use Rattle.season.specs.declared.lane.Lane.TheVariants.{Resting, Playing, Done}

abbrev pub lane_weight : Lane → ℕ
lane_weight (Resting n p) = n + 1 + steps_left p
lane_weight (Playing p) = steps_left p
lane_weight Done = 0

abbrev pub desk_weight : Desk → ℕ
desk_weight Fresh = 6
desk_weight (ToRead k) = 5
desk_weight (ToRetry k) = 4
desk_weight (Looking k) = 3
desk_weight (ToCommit k) = 2
desk_weight (ToAbort k) = 1
desk_weight (ToLeave k) = 1
desk_weight desk_done = 0

-- the desk after a call that is not granted, from what it is after a wait and after a refusal
abbrev pub HeldUp : {S : Type 0} → (Waiting → Desk → Type 0) → (Ticket S → Desk → Type 0) → NotGranted S → Desk → Type 0
HeldUp OfWait OfRefused (not_wait k b) d = OfWait k d
HeldUp OfWait OfRefused not_deadlock d = d ≡ desk_done
HeldUp OfWait OfRefused (not_refused k e) d = OfRefused k d
