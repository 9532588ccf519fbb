use Rattle.std.proofs.Common.{IfSome, subst}
use Rattle.scheduler.specs.declared.lock.Kind.TheVariants.{Read}
use Rattle.scheduler.specs.Fresh.{Fresh}
use Rattle.scheduler.specs.Tables.{ledger_of}
use Rattle.scheduler.proofs.Freshness.{missing-read}
use Rattle.scheduler.proofs.Missing.{has_room}
use Rattle.scheduler.proofs.scheduler.Scheduler.grant_read.Goals as goal

pub grant-requires : goal.grant-requires
grant-requires g c =
    let s = c.args.self.now in
    let ls = s.tables.locks.inner.items in
    let room = has_room c.args.t c.args.item Read (ledger_of s.tables) c.in_ok-missing.missing c.in_ok-missing.ensures.answer in
    record {
      within = c.requires.at.within;
      room = c.in_ok-missing.ensures.room;
      fresh = subst (λ l. IfSome l (Fresh ls)) room.1 (missing-read (g.R.LockRule.allows s.rule) (g.met.R.LockRule.apart s.rule) c.args.t c.args.item ls c.requires.free);
    }
