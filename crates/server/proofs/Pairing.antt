-- A pair that goes together, opened over a store with nothing pending, has no refusal.
use Rattle.std.proofs.Common.{◌≡◌, ℕ, Bool, List, length, ℤ, None, Option, refl, ap, ◌∙◌, subst}
use Rattle.records.specs.declared.refusal.Refusal.{Refusal}
use Rattle.store.specs.Meaning.{Writes, held_count, nothing, row_count}
use Rattle.store.specs.Sums.{sum-zero}
use Rattle.scheduler.specs.Blockers.{Rule}
use Rattle.scheduler.specs.Steps.{pair_refusal}

none-held : (n : ℕ) → held_count nothing n ≡ 0
none-held n = sum-zero (λ t. row_count nothing t n) (λ t. sum-zero _ (λ _. refl) n) 65536

pub at-opening : (P : Option Refusal → List ℤ → Writes → Type 0) (ok : Rule) (private : Bool) (vs zs : List ℤ) (p : Writes) → vs ≡ zs → p ≡ nothing → pair_refusal ok private 0 ≡ None
    → P (pair_refusal ok private (held_count p (length vs))) vs p → P None zs nothing
at-opening P ok private vs zs p v w n h =
    subst (λ (e : Option Refusal). P e zs nothing) (ap (pair_refusal ok private) (none-held (length zs)) ∙ n)
    (subst (λ (q : Writes). P (pair_refusal ok private (held_count q (length zs))) zs q) w
    (subst (λ (us : List ℤ). P (pair_refusal ok private (held_count p (length us))) us p) v h))
