use Rattle.std.proofs.Common.{◌+◌, arith}
use Rattle.scheduler.specs.declared.transaction.State.TheVariants.{Active}
use Rattle.scheduler.proofs.Rising.{rising-push}
use Rattle.scheduler.proofs.tables.Tables.begin.Goals as goal

pub invariant_of-self : goal.invariant_of-self
invariant_of-self c =
    let os = c.args.self.now.open.items in
    let p = c.push.ensures in
    record {
      counted = omega arith;
      few = omega (arith, p.len, c.requires.room);
      rising = rw p.items (rising-push 0 c.args.self.now.begins (c.args.self.now.begins + 1) os Active c.args.self.now.rising (omega arith) (omega arith));
    }
