use Rattle.std.proofs.Common.{◌<◌, get_or, pos, Ok, sym, ap, ◌∙◌, arith, w32, SFits, rules}
use Rattle.std.proofs.lemmas.Int.{to_z-of_z}
use Rattle.store.proofs.Images.{length_behind}
use Rattle.store.proofs.in_place.InPlaceStore.look.Goals as goal
use Rattle.store.proofs.in_place.InPlaceStore.look.Goals.{in_default-via-in-Some+else-image-t, in_default-via-in_default}
use Rattle.store.proofs.Puts.{look_none, look_other, look_own}
use Rattle.store.specs.Entries.{size_of}

pub bounds-self-item : goal.bounds-self-item
bounds-self-item c = let s = c.args.self.now in omega (arith, length_behind s.images.entries.items s.values.now)

pub returns-in-Some : goal.returns-in-Some
returns-in-Some c =
    let s = c.args.self.now in
    let e = c.in-Some.image.now in
    let fits : SFits w32 e.value = search rules in
    let in' : c.args.item < size_of s.values.now = omega (arith, length_behind s.images.entries.items s.values.now) in
    ap Ok (to_z-of_z w32 e.value fits)
    ∙ sym (look_other s.images.entries.items s.values.now c.args.t c.args.item s.images.fits s.bounded s.apart in' e (sym c.in-Some.ensures) c.if-image-t.true)

pub returns-in_default : goal.returns-in_default
returns-in_default c =
    let s = c.args.self.now in
    let es = s.images.entries.items in
    let vs = s.values.now in
    let t = c.args.t in
    let i = c.args.item in
    let in' : i < size_of vs = omega (arith, length_behind es vs) in
    let x = get_or vs i (pos 0) in
    let fits : SFits w32 x = search rules in
    ap Ok (to_z-of_z w32 x fits)
    ∙ sym (elim c.in_default.branch [
      | in_default-via-in-Some+else-image-t w ↦ look_own es vs t i s.images.fits s.bounded s.apart in' w.in-Some.image.now (sym w.in-Some.ensures) w.if-image-t.false
      | in_default-via-in_default w ↦ look_none es vs t i s.images.fits s.bounded s.apart in' (sym w.in_default.ensures)
    ])
