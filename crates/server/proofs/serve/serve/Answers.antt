use Rattle.std.proofs.Common.{◌++◌, map, vec_items, ap, ◌∙◌}
use Rattle.store.specs.Meaning.{laid}
use Rattle.server.specs.Told.{bytes_of, holding}
use Rattle.scheduler.specs.Recorded.{still_open}
use Rattle.server.proofs.Serving.{both_closing, none-closing}
use Rattle.server.proofs.serve.serve.Goals as goal

pub returns-then-input-gt-LIMIT : goal.returns-then-input-gt-LIMIT
returns-then-input-gt-LIMIT g c = none-closing _ _ _ _ _ _ _ _ _ _ c.if-input-gt-LIMIT.true c.in_ok-output.ensures

pub returns : goal.returns
returns g c =
    let S = g.S.Store in
    let opens = c.in_ok-push_open.ensures ∙ ap (λ os. vec_items c.in_ok-output.output ++ bytes_of (map still_open os)) c.transactions.ensures in
    let values = c.in_ok-push_values.ensures ∙ ap (λ s. vec_items c.push_open.new.out ++ bytes_of (holding 0 (laid (S.pending s 0) (S.committed s)))) c.into_store.ensures in
    both_closing _ _ _ _ _ _ _ _ _ _ c.if-input-gt-LIMIT.false c.in_ok-output.ensures _ _ opens values
