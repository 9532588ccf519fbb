use Rattle.scheduler.specs.Steps.{terms}
use Rattle.scheduler.specs.Tables.{ledger_of}
use Rattle.tickets.proofs.Replying.{to_write}
use Rattle.tickets.proofs.ticket.calls.Ticket+Going.write.Goals as goal

pub writing-requires : goal.writing-requires
writing-requires g c =
    let S = g.S.Store in
    let s = c.args.scheduler.now in (
      _,
      to_write (g.R.LockRule.allows s.rule) (terms S.private S.room S.share) (ledger_of s.tables) (S.committed s.store) (S.pending s.store) c.args.self.number s.refusal c.args.item _ c.call-answer.result
          c.call-answer.ensures.answer,
    )
