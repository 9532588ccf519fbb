use Rattle.std.proofs.Common.{IfOk, vec_items, refl, ap, ◌∙◌}
use Rattle.store.specs.Slices.{items}
use Rattle.cases.specs.Servers.{in_place_server}
use Rattle.server.specs.Output.{Output}
use Rattle.server.proofs.Pairing.{at-opening}
use Rattle.server.proofs.pairs.serve_in_place.Goals as goal

pub returns : goal.returns
returns c =
    let s = in_place_server in
    let e = c.open-store.ensures in
    at-opening (λ x vs p. IfOk c.serve.result (λ out. Output s.rule s.terms x vs p c.args.input.now (vec_items out))) s.rule s.terms.private _ _ _
    (e.committed ∙ ap items c.starting_values-values.ensures.zeros) e.pending refl c.serve.ensures
