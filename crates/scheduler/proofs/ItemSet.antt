-- A set of items after one item more.
use Rattle.std.proofs.Common.{◌≡◌, ℕ, ◌/◌, ◌%◌, ◌<◌, ◌≤◌, Bool, true, false, ◌||◌, eqb, List, length, get_or, set, replicate, sym, refl, ap, ◌∙◌, subst, ap₂, inl, inr, arith}
use Rattle.std.proofs.lemmas.List.{get_or_past, get_or-replicate, get_or-set_other, get_or-set_same, length-replicate}
use Rattle.std.proofs.lemmas.Bool.{cases_eq, cases_lt, eq-eqb, ne_eqb}
use Rattle.scheduler.specs.declared.places.Places.{Places}
use Rattle.scheduler.specs.Bits.{has}
use Rattle.scheduler.specs.ItemSets.{has_item, no_places}
use Rattle.scheduler.proofs.Bit.{has-none}

pub no_items : (n x : ℕ) → has_item (replicate n no_places) x ≡ false
no_items n x = ap (λ (w : Places). has w.bits (x % 64)) all ∙ has-none (x % 64)
  where
    all : get_or (replicate n no_places) (x / 64) no_places ≡ no_places
    all = elim (cases_lt (x / 64) n) [
      | inl l ↦ get_or-replicate n (x / 64) no_places no_places l
      | inr l ↦ get_or_past (replicate n no_places) (x / 64) no_places (subst (λ (m : ℕ). m ≤ x / 64) (sym (length-replicate n no_places)) l)
    ]

same_item : (i x : ℕ) → x / 64 ≡ i / 64 → eqb (i % 64) (x % 64) ≡ eqb i x
same_item i x e = elim (cases_eq i x) [
  | inl q ↦ eq-eqb (i % 64) (x % 64) (ap (λ (n : ℕ). n % 64) q) ∙ sym (eq-eqb i x q)
  | inr n ↦ ne_eqb (i % 64) (x % 64) (λ q. n (omega arith)) ∙ sym (ne_eqb i x n)
]

nothing-more : (b : Bool) → b ≡ (b || false)
nothing-more true = refl
nothing-more false = refl

pub one_item : (ws : List Places) (i : ℕ) (w : Places) → i / 64 < length ws → ((p : ℕ) → has w.bits p ≡ (has (get_or ws (i / 64) no_places).bits p || eqb (i % 64) p))
    → (x : ℕ) → has_item (set ws (i / 64) w) x ≡ (has_item ws x || eqb i x)
one_item ws i w l h x = elim (cases_eq (x / 64) (i / 64)) [
  | inl e ↦
      ap (λ (n : ℕ). has (get_or (set ws (i / 64) w) n no_places).bits (x % 64)) e
      ∙ ap (λ (y : Places). has y.bits (x % 64)) (get_or-set_same ws (i / 64) w no_places l)
      ∙ h (x % 64)
      ∙ ap₂ (λ (a b : Bool). a || b) (ap (λ (n : ℕ). has (get_or ws n no_places).bits (x % 64)) (sym e)) (same_item i x e)
  | inr n ↦
      ap (λ (y : Places). has y.bits (x % 64)) (get_or-set_other ws (i / 64) (x / 64) w no_places n)
      ∙ nothing-more (has_item ws x)
      ∙ ap (λ (b : Bool). has_item ws x || b) (sym (ne_eqb i x (λ e. n (ap (λ (m : ℕ). m / 64) (sym e)))))
]
