use Rattle.std.proofs.Common.{◌≡◌, ◌⊎◌, List, [], ◌∷◌, ◌++◌, map, vec_items, refl, inl, inr, ap, ap₂, ◌∙◌}
use Rattle.std.specs.List.{zip}
use Rattle.std.specs.Slice.Iter.{iter_rest}
use Rattle.std.specs.Iterator.Adapters.{zip_first, zip_second}
use Rattle.std.proofs.lemmas.Slice.Zip.{Zip-more, either_empty_from_Zip}
use Rattle.records.specs.AnswerRecords.{answer_bytes}
use Rattle.reading.specs.declared.file.Placed.{Placed}
use Rattle.scheduler.specs.Ledger.{Answer}
use Rattle.server.specs.Told.{bytes_of, told}
use Rattle.server.proofs.Growing.{all_there, one_more}
use Rattle.server.proofs.output.push_answers.Goals as goal

-- no pair is left once one of the two lists is empty
none_left : {A B : Type 0} (xs : List A) (ys : List B) → (xs ≡ []) ⊎ (ys ≡ []) → zip xs ys ≡ []
none_left xs ys (inl e) = ap (λ zs. zip zs ys) e
none_left [] ys (inr e) = refl
none_left (x ∷ xs) ys (inr e) = ap (zip (x ∷ xs)) e

pub loop-placed-preserved : goal.loop-placed-preserved
loop-placed-preserved c =
    let q = c.in-Some.placed.now in
    let a = c.in-Some.answer.now in
    let pushed' = c.in_ok-push_record.ensures ∙ ap (λ r. vec_items c.loop-placed.out ++ answer_bytes r) c.answer_record.ensures in
    let heads = Zip-more c.loop-placed.placed-iterator c.next.new.self c.next.result _ c.in-Some.is c.next.ensures.steps in
    one_more _ _ (answer_bytes (told q.place a)) _ _ _ pushed'
    (ap (λ ps. bytes_of (map (λ (p : Placed × Answer). told p.0.place p.1) ps)) (ap₂ zip heads.0 heads.1))
    c.loop-placed.invariant

pub returns : goal.returns
returns c =
    let s = c.loop-placed.placed-iterator in
    let ended = either_empty_from_Zip s c.next.new.self c.next.result c.in-None.is c.next.ensures.steps in
    all_there _ _ _
    (ap (λ ps. bytes_of (map (λ (p : Placed × Answer). told p.0.place p.1) ps)) (none_left (iter_rest (zip_first s)) (iter_rest (zip_second s)) ended))
    c.loop-placed.invariant
