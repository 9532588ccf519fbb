use Rattle.std.proofs.Common.{◌≡◌, ◌<◌, List, [], ◌∷◌, ◌++◌, length, get_or, set, ℤ, pos, Some, None, Err, false, sym, ap, ◌∙◌, find, arith, w32, SFits, rules}
use Rattle.std.proofs.lemmas.Bool.{eq-eqb}
use Rattle.std.proofs.lemmas.Int.{to_z-of_z}
use Rattle.std.proofs.lemmas.List.{drop-set-lt}
use Rattle.store.proofs.Images.{again_behind, again_pending, first_behind, first-pending, length_behind}
use Rattle.store.proofs.in_place.InPlaceStore.put.Goals as goal
use Rattle.store.proofs.in_place.InPlaceStore.put.Goals.{in-None+else-len-eq-ROOM, in-Some+else-image-t}
use Rattle.store.proofs.Kept.{apart-push, bounded-push, nat_eq_flip}
use Rattle.store.proofs.Puts.{put_again, put_full, put-new, put-taken}
use Rattle.store.specs.declared.in_place.InPlace.{InPlace}
use Rattle.store.specs.declared.table.Entry.{Entry}
use Rattle.store.specs.Entries.{apart, bounded, entry, is_on, same_item, size_of}
use Rattle.store.specs.Meaning.{answered, refused, written}
use Rattle.store.specs.Slices.{committed_behind, pending_in}

pub bounds-self-i : goal.bounds-self-i
bounds-self-i c = let s = c.args.self.now in omega (arith, length_behind s.images.entries.items s.values.now)

pub returns-then-len-eq-ROOM-clause-answer : goal.returns-then-len-eq-ROOM-clause-answer
returns-then-len-eq-ROOM-clause-answer c =
    let s = c.args.self.now in
    let es = s.images.entries.items in
    let vs = s.values.now in
    let in' : c.args.item < size_of vs = omega (arith, length_behind es vs) in
    let full : length es ≡ 512 = omega (arith, c.len.ensures, c.if-len-eq-ROOM.true) in
    ap Err c.refusal-then-len-eq-ROOM.ensures ∙ sym (ap answered (put_full es vs c.args.t c.args.item s.images.fits s.bounded s.apart in' (sym c.in-None.ensures) full))

pub returns-then-image-t-clause-answer : goal.returns-then-image-t-clause-answer
returns-then-image-t-clause-answer c =
    let s = c.args.self.now in
    let es = s.images.entries.items in
    let vs = s.values.now in
    let in' : c.args.item < size_of vs = omega (arith, length_behind es vs) in
    ap Err c.refusal-then-image-t.ensures ∙ sym (ap answered (put-taken es vs c.args.t c.args.item s.images.fits s.bounded s.apart in' c.in-Some.image.now (sym c.in-Some.ensures) c.if-image-t.true))

pub invariant_of-self : goal.invariant_of-self
invariant_of-self c =
    let s = c.args.self.now in
    let es = s.images.entries.items in
    let n = size_of s.values.now in
    let small : c.args.t < 65536 = omega arith in
    let in' : c.args.item < n = omega (arith, length_behind es s.values.now) in
    record {
      apart = ap (apart same_item) c.push.ensures ∙ apart-push same_item es _ (λ f. nat_eq_flip c.args.item f.item) s.apart (sym c.in-None.ensures);
      bounded = ap (bounded n) c.push.ensures ∙ bounded-push n es _ s.bounded small in';
    }

pub bounds-self-i-2 : goal.bounds-self-i-2
bounds-self-i-2 c =
    let s = c.args.self.now in
    let m = c.match-on.self in
    let same : m.values ≡ s.values = elim c.match-on.branch [
      | in-None+else-len-eq-ROOM w ↦ ap (λ (n : InPlace). n.values) w.self-is
      | in-Some+else-image-t w ↦ ap (λ (n : InPlace). n.values) w.self-is
    ] in
    rw same (omega (arith, length_behind s.images.entries.items s.values.now))

pub returns : goal.returns
returns c =
    let s = c.args.self.now in
    let m = c.match-on.self in
    let es = s.images.entries.items in
    let vs = s.values.now in
    let t = c.args.t in
    let i = c.args.item in
    let v = c.args.value in
    let few = s.images.fits in
    let low = s.bounded in
    let in' : i < size_of vs = omega (arith, length_behind es vs) in
    let x = get_or vs i (pos 0) in
    let way : (fs : List Entry) × (m.images.entries.items ≡ fs) × (m.values ≡ s.values) × (refused false 512 512 (committed_behind es vs) (pending_in es vs) t i ≡ None) × (committed_behind fs (set vs i v) ≡ committed_behind es vs) × (pending_in fs (set vs i v) ≡ written (pending_in es vs) t i v) =
    elim c.match-on.branch [
      | in-None+else-len-eq-ROOM w ↦
          let none : find (is_on i) es ≡ None = sym w.in-None.ensures in
          let room : length es < 512 = omega (arith, few, w.len.ensures, w.if-len-eq-ROOM.false) in
          let fits : SFits w32 x = search rules in
          (es ++ entry t i x ∷ [], ap (λ (n : InPlace). n.images.entries.items) w.self-is ∙ w.push.ensures ∙ ap (λ (y : ℤ). es ++ entry t i y ∷ []) (to_z-of_z w32 x fits), ap (λ (n : InPlace). n.values) w.self-is, put-new es vs t i few low s.apart in' none room, first_behind es vs t i v in' none, first-pending es vs t i v in' none)
      | in-Some+else-image-t w ↦
          let e = w.in-Some.image.now in
          let has : find (is_on i) es ≡ Some e = sym w.in-Some.ensures in
          let own = eq-eqb e.owner t w.if-image-t.false in
          (es, ap (λ (n : InPlace). n.images.entries.items) w.self-is, ap (λ (n : InPlace). n.values) w.self-is, put_again es vs t i few low s.apart in' e has w.if-image-t.false, again_behind es vs t i v in' e has own s.apart, again_pending es vs t i v in' e has own s.apart)
    ] in
    let stored = to_z-of_z w32 v c.ranges.value in
    record {
      answer = sym (ap answered way.3);
      committed = rw (way.1, way.2, stored) way.4;
      pending = rw (way.1, way.2, stored) way.5;
      place = rw (way.2, stored, drop-set-lt 1024 vs i v (omega arith));
    }
