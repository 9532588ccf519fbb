use Rattle.std.proofs.Common.{◌≡◌, ◌<◌, true, length, get_or, Some, None, Err, sym, refl, ap, ◌∙◌, arith, w32}
use Rattle.records.specs.declared.refusal.Reason.TheVariants.{NoRoom}
use Rattle.std.proofs.lemmas.Int.{to_z-of_z}
use Rattle.std.proofs.lemmas.List.Quantifiers.{position-Some}
use Rattle.std.specs.Option.{option_map}
use Rattle.store.proofs.Kept.{apart-push, apart-revalued, bounded-push, bounded-revalued, count-revalued}
use Rattle.store.proofs.Landing.{length_items}
use Rattle.store.proofs.private.PrivateStore.put.Goals as goal
use Rattle.store.proofs.private.PrivateStore.put.Goals.{then-len-eq-ROOM-via-else-len-eq-ROOM+then-count-ge-SHARE, then-len-eq-ROOM-via-then-len-eq-ROOM}
use Rattle.store.proofs.Replies.{put_again, put_full, put-new, put_over}
use Rattle.store.proofs.Scans.{find-None, find-Some}
use Rattle.store.proofs.Workspace.{found-pushed, found-revalued, pair_flip, shares-push}
use Rattle.store.specs.Entries.{apart, blank, bounded, count_of, found, is_pair, same_pair, size_of, value_of}
use Rattle.store.specs.Meaning.{answered, of_store, refused}
use Rattle.store.specs.Slices.{items}

pub invariant_of-self : goal.invariant_of-self
invariant_of-self c =
    let s = c.args.self.now in
    let new = c.replace.ensures in
    record { apart = rw (new, apart-revalued) s.apart; bounded = rw (new, bounded-revalued) s.bounded; shares = λ u. rw (new, count-revalued) (s.shares u) }

pub returns-in-Some : goal.returns-in-Some
returns-in-Some c =
    let s = c.args.self.now in
    let es = s.writes.entries.items in
    let vs = s.values.now in
    let t = c.args.t in
    let i = c.args.item in
    let k = c.in-Some.k in
    let in' : i < size_of vs = omega (arith, length_items vs) in
    let there = position-Some (is_pair t i) es k blank (sym c.in-Some.ensures) in
    let has : found es t i ≡ Some (get_or es k blank).value = ap (option_map value_of) (find-Some (is_pair t i) es k (sym c.in-Some.ensures)) in
    record {
      answer = sym (ap answered (put_again es vs t i s.writes.fits s.bounded s.apart in' (get_or es k blank).value has));
      committed = refl;
      pending = rw (c.replace.ensures, to_z-of_z w32 c.args.value c.ranges.value) (found-revalued es k t i c.args.value there.0 there.1 s.apart);
      place = refl;
    }

pub returns-then-len-eq-ROOM-clause-answer : goal.returns-then-len-eq-ROOM-clause-answer
returns-then-len-eq-ROOM-clause-answer c =
    let s = c.args.self.now in
    let es = s.writes.entries.items in
    let vs = s.values.now in
    let t = c.args.t in
    let i = c.args.item in
    let in' : i < size_of vs = omega (arith, length_items vs) in
    let none : found es t i ≡ None = ap (option_map value_of) (find-None (is_pair t i) es (sym c.in_default.ensures)) in
    let why : refused true 512 64 (items vs) (found es) t i ≡ Some (of_store NoRoom) = elim c.then-len-eq-ROOM.branch [
      | then-len-eq-ROOM-via-then-len-eq-ROOM w ↦ put_full es vs t i s.writes.fits s.bounded s.apart in' none (omega (arith, c.len.ensures, w.if-len-eq-ROOM.true))
      | then-len-eq-ROOM-via-else-len-eq-ROOM+then-count-ge-SHARE w ↦ put_over es vs t i s.writes.fits s.bounded s.apart in' none (omega (arith, w.if-count-ge-SHARE.true, w.count.ensures))
    ] in
    ap Err c.refusal-then-len-eq-ROOM.ensures ∙ sym (ap answered why)

pub invariant_of-self-2 : goal.invariant_of-self-2
invariant_of-self-2 c =
    let s = c.args.self.now in
    let es = s.writes.entries.items in
    let t = c.args.t in
    let i = c.args.item in
    let none = find-None (is_pair t i) es (sym c.in_default.ensures) in
    let n = size_of s.values.now in
    let more = c.push.ensures in
    let small : t < 65536 = omega arith in
    let in' : i < n = omega (arith, length_items s.values.now) in
    let count : count_of t es < 64 = omega (arith, c.if-count-ge-SHARE.false, c.count.ensures) in
    record {
      apart = ap (apart same_pair) more ∙ apart-push same_pair es _ (λ f. pair_flip t i f.owner f.item) s.apart none;
      bounded = ap (bounded n) more ∙ bounded-push n es _ s.bounded small in';
      shares = λ u. shares-push es t i _ count s.shares u (ap (count_of u) more);
    }

pub returns : goal.returns
returns c =
    let s = c.args.self.now in
    let es = s.writes.entries.items in
    let vs = s.values.now in
    let t = c.args.t in
    let i = c.args.item in
    let in' : i < size_of vs = omega (arith, length_items vs) in
    let none = find-None (is_pair t i) es (sym c.in_default.ensures) in
    let room : length es < 512 = omega (arith, s.writes.fits, c.len.ensures, c.if-len-eq-ROOM.false) in
    let share : count_of t es < 64 = omega (arith, c.if-count-ge-SHARE.false, c.count.ensures) in
    record {
      answer = sym (ap answered (put-new es vs t i s.writes.fits s.bounded s.apart in' (ap (option_map value_of) none) room share));
      committed = refl;
      pending = rw (c.push.ensures, to_z-of_z w32 c.args.value c.ranges.value) (found-pushed es t i c.args.value none);
      place = refl;
    }
