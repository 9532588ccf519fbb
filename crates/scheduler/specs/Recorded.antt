-- A reply and an open transaction as records.
use Rattle.records.specs.declared.answer.Activity.{Activity}
use Rattle.records.specs.declared.answer.Activity.TheVariants.{Active as is_active, Waiting as is_waiting}
use Rattle.records.specs.declared.answer.Answer.{Answer as Record}
use Rattle.records.specs.declared.answer.Answer.TheVariants.{Opened as opened, Value as value, Written as written, Committed as committed, Aborted as aborted, Wait as wait, Deadlock as deadlock, StillOpen}
use Rattle.scheduler.specs.declared.reply.Reply.{Reply}
use Rattle.scheduler.specs.declared.reply.Reply.TheVariants.{Opened, Value, Written, Committed, Aborted, Wait, Deadlock}
use Rattle.scheduler.specs.declared.transaction.State.{State}
use Rattle.scheduler.specs.declared.transaction.State.TheVariants.{Active, Waiting}
use Rattle.scheduler.specs.declared.transaction.Transaction.{Transaction}

abbrev pub recorded : Reply → Record
recorded (Opened t) = opened t
recorded (Value t i v) = value t i v
recorded (Written t i) = written t i
recorded (Committed t) = committed t
recorded (Aborted t) = aborted t
recorded (Wait t b) = wait t b
recorded (Deadlock t) = deadlock t

abbrev pub activity : State → Activity
activity Active = is_active
activity (Waiting a) = is_waiting

abbrev pub still_open : Transaction → Record
still_open o = StillOpen o.number (activity o.state)
