use Rattle.std.proofs.Common.{◌≡◌, ℕ, Bool, false, length, Ok, sym, ap, ◌∙◌, subst}
use Rattle.scheduler.specs.Blockers.{blockers}
use Rattle.scheduler.specs.Steps.{Placed, Terms, no_item}
use Rattle.scheduler.specs.Tables.{ledger_of}
use Rattle.scheduler.proofs.Circling.{met_blocked}
use Rattle.scheduler.proofs.scheduler.Scheduler.attempt.Goals as goal

pub returns-in-Some : goal.returns-in-Some
returns-in-Some g c =
    let ok = g.R.LockRule.allows c.args.self.now.rule in
    let L = ledger_of c.args.self.now.tables in
    let k : Terms = record { private = g.S.Store.private; room = g.S.Store.room; share = g.S.Store.share } in
    let cs = g.S.Store.committed c.args.self.now.store in
    let p = g.S.Store.pending c.args.self.now.store in
    let t = c.args.t in
    let x = c.args.ask in
    let there : no_item (length cs) x ≡ false = ap (λ (n : ℕ). no_item n x) (sym c.size.ensures) ∙ sym c.if-exceeds.ensures in
    record {
      answer = subst (λ (b : Bool). Placed ok k L cs p t x b (Ok c.block.result)) (sym there)
          (met_blocked ok k L cs p t x (blockers ok L.locks t x) (Ok c.block.result) c.in-Some.blocker c.in-Some.ensures c.block.ensures.answer);
      step = c.block.ensures.step;
      same = c.block.ensures.same;
    }
