use Rattle.std.proofs.Common.{not, eqb, ap₂, arith}
use Rattle.scheduler.specs.declared.transaction.Transaction.{Transaction}
use Rattle.scheduler.specs.Ledger.{ledger}
use Rattle.scheduler.proofs.Rising.{rising_kept}
use Rattle.scheduler.proofs.tables.Tables.close.Goals as goal

pub invariant_of-self : goal.invariant_of-self
invariant_of-self c =
    let T = c.args.self.now in
    record {
      counted = T.counted;
      few = omega (arith, c.let_go.ensures.bound, T.few);
      rising = rw c.let_go.ensures.items (rising_kept (λ (o : Transaction). not (eqb o.number c.args.t)) 0 T.begins T.open.items T.rising);
    }

pub returns : goal.returns
returns c = ap₂ (ledger c.args.self.now.begins) c.let_go.ensures.items c.remove_owner.ensures
