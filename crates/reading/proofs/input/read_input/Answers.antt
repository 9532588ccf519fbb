use Rattle.std.proofs.Common.{◌≡◌, ℕ, ◌++◌, List, [], take, IfSome, Some, None, Option, subst}
use Rattle.std.specs.Option.{option_map}
use Rattle.reading.proofs.input.read_input.Goals as goal

-- what is known of the whole is known of its front
front : (n : ℕ) (known : Option (List ℕ)) (read : List ℕ) → IfSome (option_map (take n) known) (λ xs. read ≡ [] ++ xs) → IfSome known (λ all. read ≡ take n all)
front n None read h = tt
front n (Some all) read h = h

pub returns : goal.returns
returns g c =
    let rem = g.R.Read.remaining in
    front 60001 (rem c.args.source) c.read_to_end.new.buf.items
    (subst (λ r. IfSome (option_map (take 60001) (rem r)) (λ xs. c.read_to_end.new.buf.items ≡ xs)) c.take.ensures.inner
    (subst (λ n. IfSome (option_map (take n) (rem c.take.result.inner)) (λ xs. c.read_to_end.new.buf.items ≡ xs)) c.take.ensures.limit
    (subst (λ start. IfSome (option_map (take c.take.result.limit) (rem c.take.result.inner)) (λ xs. c.read_to_end.new.buf.items ≡ start ++ xs)) c.new-input.ensures.items c.in_ok-read_to_end.ensures.bytes)))
