-- When a lock may be put at the end of the list.
use Rattle.std.specs.Prelude.{◌≡◌, false, List}
use Rattle.scheduler.specs.declared.lock.Lock.{Lock}
use Rattle.scheduler.specs.Orders.{clashes}
use Rattle.scheduler.specs.Blockers.{In}

abbrev pub Fresh : List Lock → Lock → Type 0
Fresh ls m = (l : Lock) → In l ls → clashes l m ≡ false
