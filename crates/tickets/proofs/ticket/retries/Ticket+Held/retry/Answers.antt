use Rattle.scheduler.specs.Steps.{terms}
use Rattle.scheduler.specs.Tables.{ledger_of}
use Rattle.tickets.proofs.Replying.{to_retry}
use Rattle.tickets.proofs.ticket.retries.Ticket+Held.retry.Goals as goal

pub retrying-requires : goal.retrying-requires
retrying-requires g c =
    let S = g.S.Store in
    let s = c.args.scheduler.now in
    to_retry (g.R.LockRule.allows s.rule) (terms S.private S.room S.share) (ledger_of s.tables) (S.committed s.store) (S.pending s.store) c.args.self.number s.refusal c.call-answer.result
    c.call-answer.ensures.answer
