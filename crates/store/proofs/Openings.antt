-- With no entries, nothing is laid over anything.
use Rattle.std.proofs.Common.{◌≡◌, List, [], ◌∷◌, ℤ, None, refl, ap}
use Rattle.store.specs.Meaning.{laid}

pub laid-nothing : (cs : List ℤ) → laid (λ _. None) cs ≡ cs
laid-nothing [] = refl
laid-nothing (c ∷ cs) = ap (λ l. c ∷ l) (laid-nothing cs)
