use Rattle.std.proofs.Common.{◌++◌, vec_items, ap, ◌∙◌, ap₂}
use Rattle.server.specs.Output.{requests_of}
use Rattle.server.specs.Told.{bytes_of, ended, told_all}
use Rattle.server.proofs.Serving.{answered_of, both_written}
use Rattle.server.proofs.serve.answer_all.Goals as goal

pub returns : goal.returns
returns g c =
    let found = vec_items c.in_ok-found.found in
    let end = c.in_ok-found.ending in
    let as' = vec_items c.in_ok-answers.field-0.answers in
    let calls = c.deref-2.ensures.value ∙ c.in_ok-calls.ensures ∙ ap requests_of c.deref.ensures.value in
    let told = ap₂ (λ x y. told_all x y ++ ended end) c.deref-3.ensures.value c.deref-4.ensures.value in
    let both = both_written (told_all c.deref-3.result.now c.deref-4.result.now) (ended end) _ _ _ c.new-output.ensures.items c.in_ok-push_answers.ensures c.in_ok-push_ending.ensures ∙ ap bytes_of told in
    answered_of _ _ _ _ _ c.args.input.now _ _ _ _ found end c.deref-2.result.now as' c.in_ok-found.ensures calls c.in_ok-answers.ensures.ran both
