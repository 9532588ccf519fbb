-- How many of a transaction's writes are accepted, one after another.
use Rattle.std.specs.Prelude.{ℕ, suc, Bool, cond, List, [], ◌∷◌, ℤ, is_some}
use Rattle.store.specs.declared.rehearsal.Write.{Write}
use Rattle.store.specs.Meaning.{Writes, refused, written}

abbrev pub accepted : Bool → ℕ → ℕ → List ℤ → Writes → ℕ → List Write → ℕ
accepted private room share cs p t [] = 0
accepted private room share cs p t (w ∷ ws) =
    cond (is_some (refused private room share cs p t w.item))
    (accepted private room share cs p t ws)
    (suc (accepted private room share cs (written p t w.item w.value) t ws))
