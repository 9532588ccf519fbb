use Rattle.std.proofs.Common.{◌≡◌, ℕ, List, length, get_or, set, ap, ◌∙◌, arith}
use Rattle.std.proofs.lemmas.List.{length-set}
use Rattle.arrayvec.specs.ArrayVec.{ArrayVec, with_items}
use Rattle.arrayvec.proofs.ArrayVecLemmas.{items-with_items}
use Rattle.scheduler.specs.declared.transaction.State.{State}
use Rattle.scheduler.specs.declared.transaction.Transaction.{Transaction}
use Rattle.scheduler.specs.Ledger.{ledger, transaction}
use Rattle.scheduler.specs.Orders.{no_transaction}
use Rattle.scheduler.proofs.Rising.{rising-set}
use Rattle.scheduler.proofs.tables.Tables.restate.Goals as goal

-- one element is written through the slice xs
written : (v : ArrayVec Transaction) (xs : List Transaction) (i : ℕ) (s : State) → xs ≡ v.items
    → (with_items v (set xs i (transaction (get_or xs i no_transaction).number s))).items ≡ set v.items i (transaction (get_or v.items i no_transaction).number s)
written v xs i s e =
    items-with_items v _ (length-set xs i _ ∙ ap length e) ∙ ap (λ (l : List Transaction). set l i (transaction (get_or l i no_transaction).number s)) e

pub invariant_of-self : goal.invariant_of-self
invariant_of-self c =
    let T = c.args.self.now in
    let w = written T.open c.deref_mut.result.now c.args.i c.args.state c.deref_mut.ensures.value in
    record {
      counted = T.counted;
      few = omega (arith, ap length w ∙ length-set T.open.items c.args.i _, T.few);
      rising = rw w (rising-set 0 T.begins T.open.items c.args.i c.args.state T.rising);
    }

pub returns : goal.returns
returns c =
    let T = c.args.self.now in
    ap (λ os. ledger T.begins os T.locks.inner.items) (written T.open c.deref_mut.result.now c.args.i c.args.state c.deref_mut.ensures.value)
