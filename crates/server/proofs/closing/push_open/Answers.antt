use Rattle.std.proofs.Common.{◌++◌, map, get_or, vec_items, ap, ◌∙◌}
use Rattle.std.proofs.lemmas.List.{at_drop_all, at_drop_more}
use Rattle.records.specs.AnswerRecords.{answer_bytes}
use Rattle.scheduler.specs.Orders.{no_transaction}
use Rattle.server.specs.Told.{bytes_of}
use Rattle.scheduler.specs.Recorded.{still_open}
use Rattle.server.proofs.Growing.{all_there, one_more}
use Rattle.server.proofs.closing.push_open.Goals as goal

pub loop-transaction-preserved : goal.loop-transaction-preserved
loop-transaction-preserved c =
    let os = c.args.transactions.now in
    let i = c.loop-transaction.transaction-index in
    let new' = answer_bytes (still_open (get_or os i no_transaction)) in
    let pushed' = c.in_ok-push_record.ensures ∙ ap (λ r. vec_items c.loop-transaction.out ++ answer_bytes r) c.from.ensures in
    one_more _ _ new' _ _ _ pushed' (at_drop_more (λ xs. bytes_of (map still_open xs)) os i no_transaction c.loop-transaction-test.true) c.loop-transaction.invariant

pub returns : goal.returns
returns c = all_there _ _ _ (at_drop_all (λ os. bytes_of (map still_open os)) c.args.transactions.now c.loop-transaction.transaction-index c.loop-transaction-test.false) c.loop-transaction.invariant
