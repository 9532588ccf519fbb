use Rattle.std.proofs.Common.{is_some, refl, ap, ◌∙◌}
use Rattle.std.proofs.lemmas.Bool.{both_ways}
use Rattle.scheduler.specs.declared.transaction.State.TheVariants.{Waiting}
use Rattle.scheduler.specs.Ledger.{struck}
use Rattle.scheduler.specs.Tables.{ledger_of}
use Rattle.scheduler.proofs.Circling.{circle-at, dead, moved_is, struck-wait, waits}
use Rattle.scheduler.proofs.scheduler.Scheduler.block.Goals as goal

pub returns-then-closes_circle : goal.returns-then-closes_circle
returns-then-closes_circle g c =
    let ok = g.R.LockRule.allows c.args.self.now.rule in
    let L = ledger_of c.args.self.now.tables in
    let t = c.args.t in
    let d = circle-at ok L t c.args.i c.args.ask c.requires.at (ledger_of c.restate.new.self) c.restate.ensures c.closes_circle.result c.closes_circle.ensures in
    record {
      answer = dead ok L t c.args.ask (ap is_some c.requires.at.state) (d.0 c.if-closes_circle.true);
      step = record {
        ledger = c.close.ensures ∙ ap (struck t) (c.restate.ensures ∙ moved_is L t c.args.i (Waiting c.args.ask) c.requires.at) ∙ struck-wait t c.args.ask L;
        committed = c.discard.ensures.committed;
        pending = c.discard.ensures.pending;
      };
      same = (refl, refl, c.discard.ensures.place);
    }

pub returns : goal.returns
returns g c =
    let ok = g.R.LockRule.allows c.args.self.now.rule in
    let L = ledger_of c.args.self.now.tables in
    let t = c.args.t in
    let d = circle-at ok L t c.args.i c.args.ask c.requires.at (ledger_of c.restate.new.self) c.restate.ensures c.closes_circle.result c.closes_circle.ensures in
    record {
      answer = waits ok L t c.args.ask (ap is_some c.requires.at.state) (λ x. both_ways c.closes_circle.result c.if-closes_circle.false (d.1 x)) c.args.blocker c.requires.blocker;
      step = record {
        ledger = c.restate.ensures ∙ moved_is L t c.args.i (Waiting c.args.ask) c.requires.at;
        committed = refl;
        pending = refl;
      };
      same = (refl, refl, refl);
    }
