use Rattle.std.proofs.Common.{◌≡◌, ◌+◌, ◌/◌, ◌<◌, true, List, length, get_or, None, subst, inl, inr, arith}
use Rattle.std.proofs.lemmas.Bool.{cases_lt}
use Rattle.scheduler.specs.declared.transaction.Transaction.{Transaction}
use Rattle.scheduler.specs.Orders.{no_transaction, rising}
use Rattle.scheduler.specs.Found.{At}
use Rattle.scheduler.specs.Ledger.{state_of}
use Rattle.scheduler.proofs.Rising.{at-rising, before_less, behind_more, nowhere}
use Rattle.scheduler.proofs.tables.Tables.find.Goals as goal

pub loop-low-preserved-then-number-t-2 : goal.loop-low-preserved-then-number-t-2
loop-low-preserved-then-number-t-2 c =
    let os = c.as_slice-list.result.now in
    let m = (c.loop-low.low + c.loop-low.high) / 2 in
    let in' : m < length os = omega (arith, c.loop-low.invariant.1) in
    let up : rising 0 c.args.self.now.begins os ≡ true = rw c.loop-low.invariant.0 c.args.self.now.rising in
    (c.loop-low.invariant.0, c.loop-low.invariant.1, before_less 0 c.args.self.now.begins os up c.args.t m in' c.if-number-t-2.true, c.loop-low.invariant.3)

pub loop-low-preserved : goal.loop-low-preserved
loop-low-preserved c =
    let os = c.as_slice-list.result.now in
    let m = (c.loop-low.low + c.loop-low.high) / 2 in
    let in' : m < length os = omega (arith, c.loop-low.invariant.1) in
    let up : rising 0 c.args.self.now.begins os ≡ true = rw c.loop-low.invariant.0 c.args.self.now.rising in
    let more : c.args.t < (get_or os m no_transaction).number = omega (arith, c.if-number-t-2.false, c.if-number-t.false) in
    (c.loop-low.invariant.0, omega arith, c.loop-low.invariant.2, behind_more 0 c.args.self.now.begins os up c.args.t m in' more)

pub returns-then-number-t : goal.returns-then-number-t
returns-then-number-t c =
    let os = c.as_slice-list.result.now in
    let m = (c.loop-low.low + c.loop-low.high) / 2 in
    let in' : m < length os = omega (arith, c.loop-low.invariant.1) in
    let up : rising 0 c.args.self.now.begins os ≡ true = rw c.loop-low.invariant.0 c.args.self.now.rising in
    subst (λ (xs : List Transaction). At xs c.args.t m) c.loop-low.invariant.0 (at-rising 0 c.args.self.now.begins os up c.args.t m in' c.if-number-t.true)

pub returns : goal.returns
returns c =
    let os = c.as_slice-list.result.now in
    subst (λ (xs : List Transaction). state_of c.args.t xs ≡ None) c.loop-low.invariant.0
    (nowhere os c.args.t (λ k l e. elim (cases_lt k c.loop-low.high) [
      | inl x ↦ let y = c.loop-low.invariant.2 k (omega arith) in omega arith
      | inr x ↦ let y = c.loop-low.invariant.3 k x l in omega arith
    ]))
