use Rattle.scheduler.specs.Tables.{ledger_of}
use Rattle.scheduler.proofs.Rounds.{round, unround}
use Rattle.scheduler.proofs.tables.Tables.closes_circle.Goals as goal

pub returns : goal.returns
returns g c =
    let T = c.args.self.now in
    let ok = g.R.LockRule.allows c.args.rule.now in
    let rows = c.wait_rows-rows in
    let lead = c.leading_to.ensures in (
      λ h. let q = c.meets.ensures.0 h in round ok (ledger_of T) rows.result T.few T.locks.orderly T.rising rows.ensures c.args.i c.requires q.0 ((lead q.0).0 q.2) q.1,
      λ x. let u = unround ok (ledger_of T) rows.result T.few T.locks.orderly T.rising rows.ensures c.args.i c.requires x in c.meets.ensures.1 (u.0, u.2, (lead u.0).1 u.1),
    )
