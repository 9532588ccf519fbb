use Rattle.std.proofs.Common.{◌<◌, get_or, ℤ, pos, Ok, Option, unwrap_or, sym, ap, ◌∙◌, arith, w32, SFits, rules}
use Rattle.std.proofs.lemmas.Int.{to_z-of_z}
use Rattle.store.proofs.Landing.{length_items}
use Rattle.store.proofs.private.PrivateStore.look.Goals as goal
use Rattle.store.proofs.Replies.{looked_is}
use Rattle.store.specs.Entries.{size_of}

pub bounds-self-item : goal.bounds-self-item
bounds-self-item c = omega (arith, length_items c.args.self.now.values.now)

pub returns-in-None : goal.returns-in-None
returns-in-None c =
    let s = c.args.self.now in
    let es = s.writes.entries.items in
    let vs = s.values.now in
    let i = c.args.item in
    let in' : i < size_of vs = omega (arith, length_items vs) in
    let x = get_or vs i (pos 0) in
    let fits : SFits w32 x = search rules in
    ap Ok (to_z-of_z w32 x fits)
    ∙ sym (looked_is es vs c.args.t i s.writes.fits s.bounded s.apart in' ∙ ap (λ (o : Option ℤ). Ok (unwrap_or o x)) (sym c.in-None.ensures))
