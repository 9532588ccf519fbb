use Rattle.std.proofs.Common.{◌≡◌, ◌+◌, ◌<◌, ◌++◌, length, get_or, drop, pos, vec_items, sym, ap, ◌∙◌, arith, w32, SFits, rules}
use Rattle.std.proofs.lemmas.Int.{to_z-of_z}
use Rattle.std.proofs.lemmas.List.{at_drop_all, at_drop_more}
use Rattle.store.specs.Laid.{length-laid}
use Rattle.store.specs.Meaning.{laid}
use Rattle.server.specs.Told.{bytes_of, held, holding}
use Rattle.server.proofs.Growing.{all_there, bytes_append, one_more}
use Rattle.server.proofs.Seen.{seen}
use Rattle.server.proofs.closing.push_values.Goals as goal

pub loop-index-preserved : goal.loop-index-preserved
loop-index-preserved g c =
    let cs = g.S.Store.committed c.args.store.now in
    let row = g.S.Store.pending c.args.store.now 0 in
    let vs = laid row cs in
    let i = c.loop-index.index in
    let n : length vs ≡ length cs = length-laid row cs in
    let lt : i < length vs = omega (arith, c.size-index-end.ensures, c.loop-index-test.true) in
    let low : i < length cs = omega arith in
    let fits : SFits w32 c.unwrap-value.result = search rules in
    let v = get_or vs i (pos 0) in
    let pushed' : vec_items c.push_value.new.out ≡ vec_items c.loop-index.out ++ bytes_of (held i v) =
    c.in_ok-push_value.ensures ∙ ap (λ w. vec_items c.loop-index.out ++ bytes_of (held i w)) (to_z-of_z w32 c.unwrap-value.result fits ∙ seen cs (g.S.Store.pending c.args.store.now) i c.unwrap-value.result low (sym c.look.ensures ∙ c.unwrap-value.ensures)) in
    one_more _ _ (bytes_of (held i v)) _ _ _ pushed' (at_drop_more (λ xs. bytes_of (holding i xs)) vs i (pos 0) lt ∙ bytes_append (held i v) (holding (i + 1) (drop (i + 1) vs))) c.loop-index.invariant

pub returns : goal.returns
returns g c =
    let cs = g.S.Store.committed c.args.store.now in
    let row = g.S.Store.pending c.args.store.now 0 in
    let n = length-laid row cs in
    all_there _ _ _ (at_drop_all (λ xs. bytes_of (holding c.loop-index.index xs)) (laid row cs) c.loop-index.index (omega (arith, c.size-index-end.ensures, c.loop-index-test.false))) c.loop-index.invariant
