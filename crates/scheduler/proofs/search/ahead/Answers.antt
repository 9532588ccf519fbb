use Rattle.std.proofs.Common.{◌≡◌, Bool, true, false, ◌&&◌, ◌||◌, List, ◌∷◌, length, drop, sym, ap, ◌∙◌, subst, ap₂}
use Rattle.std.proofs.lemmas.Bool.{cond-false, cond-true}
use Rattle.std.specs.Iterator.Adapters.{rev_source}
use Rattle.std.specs.Slice.Iter.{iter_rest}
use Rattle.scheduler.specs.declared.lock.Kind.TheVariants.{Write}
use Rattle.scheduler.specs.declared.lock.Lock.{Lock}
use Rattle.scheduler.specs.Blockers.{In, ahead, first, reads_beside}
use Rattle.scheduler.specs.Ledger.{holds, is_lock}
use Rattle.scheduler.proofs.Scans.{ahead-later, back-more, front-less, is_write_of, no_write_of, or_swap}
use Rattle.scheduler.proofs.search.ahead.Goals as goal

pub returns-then-reads_one_of : goal.returns-then-reads_one_of
returns-then-reads_one_of c =
    let t = c.args.t in
    let ls = c.args.locks.now in
    let l = c.in-Some.lock.now in
    let old = iter_rest (rev_source c.loop-lock.lock-iterator) in
    let new = iter_rest (rev_source c.next.new.self) in
    let back = drop (length old) ls in
    let yes' : (reads_beside t l && holds t l.item Write back) ≡ true = ap (λ (b : Bool). reads_beside t l && b) (sym (c.loop-lock.invariant.2 l.item)) ∙ sym c.if-reads_one_of.ensures in
    ahead-later t ls (length new) l.owner
    (subst (λ (ms : List Lock). In l.owner (ahead t ms)) (sym (back-more ls old new l c.loop-lock.invariant.0 c.in-Some.ensures.steps))
    (subst (In l.owner) (sym (cond-true _ _ _ yes')) first))

pub loop-lock-preserved-then-is_lock : goal.loop-lock-preserved-then-is_lock
loop-lock-preserved-then-is_lock c =
    let t = c.args.t in
    let ls = c.args.locks.now in
    let l = c.in-Some.lock.now in
    let old = iter_rest (rev_source c.loop-lock.lock-iterator) in
    let new = iter_rest (rev_source c.next.new.self) in
    let back = drop (length old) ls in
    let more : drop (length new) ls ≡ l ∷ back = back-more ls old new l c.loop-lock.invariant.0 c.in-Some.ensures.steps in
    let no' : (reads_beside t l && holds t l.item Write back) ≡ false = ap (λ (b : Bool). reads_beside t l && b) (sym (c.loop-lock.invariant.2 l.item)) ∙ sym c.if-reads_one_of.ensures in (
      front-less ls old new l c.loop-lock.invariant.0 c.in-Some.ensures.steps,
      ap (ahead t) more ∙ cond-false _ _ _ no' ∙ c.loop-lock.invariant.1,
      λ x. c.insert.ensures x ∙ ap₂ (λ (a b : Bool). a || b) (c.loop-lock.invariant.2 x) (sym (is_write_of t x l (sym c.if-is_lock.ensures))) ∙ or_swap (holds t x Write back) (is_lock t x Write l) ∙ sym (ap (holds t x Write) more),
    )

pub loop-lock-preserved : goal.loop-lock-preserved
loop-lock-preserved c =
    let t = c.args.t in
    let ls = c.args.locks.now in
    let l = c.in-Some.lock.now in
    let old = iter_rest (rev_source c.loop-lock.lock-iterator) in
    let new = iter_rest (rev_source c.next.new.self) in
    let back = drop (length old) ls in
    let more : drop (length new) ls ≡ l ∷ back = back-more ls old new l c.loop-lock.invariant.0 c.in-Some.ensures.steps in
    let no' : (reads_beside t l && holds t l.item Write back) ≡ false = ap (λ (b : Bool). reads_beside t l && b) (sym (c.loop-lock.invariant.2 l.item)) ∙ sym c.if-reads_one_of.ensures in (
      front-less ls old new l c.loop-lock.invariant.0 c.in-Some.ensures.steps,
      ap (ahead t) more ∙ cond-false _ _ _ no' ∙ c.loop-lock.invariant.1,
      λ x. c.loop-lock.invariant.2 x ∙ sym (ap (holds t x Write) more ∙ ap (λ (b : Bool). b || holds t x Write back) (no_write_of t x l (sym c.if-is_lock.ensures))),
    )
