-- A list that grows at its end, beside what is still to come.
use Rattle.std.proofs.Common.{◌≡◌, List, [], ◌∷◌, ◌++◌, sym, refl, ap, ◌∙◌}
use Rattle.std.proofs.lemmas.List.{append_assoc, append-nil}
use Rattle.records.specs.AnswerRecords.{answer_bytes}
use Rattle.records.specs.declared.answer.Answer.{Answer as Record}
use Rattle.server.specs.Told.{bytes_of}

module _ {X : Type 0} where
  -- what was to come first has come
  pub one_more : (was is new' to-come coming all : List X) → is ≡ was ++ new' → coming ≡ new' ++ to-come → was ++ coming ≡ all → is ++ to-come ≡ all
  one_more was is new' to-come coming all e s a = ap (λ xs. xs ++ to-come) e ∙ append_assoc was new' to-come ∙ ap (λ xs. was ++ xs) (sym s) ∙ a

  -- nothing is to come
  pub all_there : (was coming all : List X) → coming ≡ [] → was ++ coming ≡ all → was ≡ all
  all_there was coming all s a = sym (append-nil was) ∙ ap (λ xs. was ++ xs) (sym s) ∙ a

pub bytes_append : (rs ss : List Record) → bytes_of (rs ++ ss) ≡ bytes_of rs ++ bytes_of ss
bytes_append [] ss = refl
bytes_append (r ∷ rs) ss = ap (λ bs. answer_bytes r ++ bs) (bytes_append rs ss) ∙ sym (append_assoc (answer_bytes r) (bytes_of rs) (bytes_of ss))
