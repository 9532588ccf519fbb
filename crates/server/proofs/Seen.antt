-- What the transaction 0 sees, which is never open.
use Rattle.std.proofs.Common.{◌≡◌, ℕ, ◌<◌, List, length, get_or, ℤ, pos, Ok, unwrap_or, sym, ◌∙◌}
use Rattle.std.proofs.lemmas.Bool.{cond-false, lt-leb}
use Rattle.store.specs.Laid.{get_or-laid}
use Rattle.store.specs.Meaning.{Writes, laid, looked}

-- a look at the item i shows the value there
pub seen : (cs : List ℤ) (p : Writes) (i : ℕ) (v : ℤ) → i < length cs → looked cs p 0 i ≡ Ok v → v ≡ get_or (laid (p 0) cs) i (pos 0)
seen cs p i v lt l =
    let shown : looked cs p 0 i ≡ Ok (unwrap_or (p 0 i) (get_or cs i (pos 0))) = cond-false _ _ _ (lt-leb (length cs) i lt) in
    let same : Ok v ≡ Ok (unwrap_or (p 0 i) (get_or cs i (pos 0))) = sym l ∙ shown in
    let w : v ≡ unwrap_or (p 0 i) (get_or cs i (pos 0)) = cc in
    w ∙ sym (get_or-laid (p 0) cs i lt)
