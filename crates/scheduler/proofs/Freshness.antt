-- A lock that is granted may be put at the end.
use Rattle.std.proofs.Common.{◌≡◌, ℕ, Bool, true, false, cond, not, ◌&&◌, ◌||◌, eqb, ◌⊎◌, List, [], IfSome, Some, None, refl, ap, subst, inl, inr}
use Rattle.std.proofs.lemmas.Bool.{and_parts, both_ways, cases_Bool, eqb-false, eqb-true, not-true, or_cases, or_parts}
use Rattle.scheduler.specs.declared.lock.Kind.{Kind}
use Rattle.scheduler.specs.declared.lock.Kind.TheVariants.{Read, Write}
use Rattle.scheduler.specs.declared.lock.Lock.{Lock}
use Rattle.scheduler.specs.declared.transaction.Ask.TheVariants.{Read as ask_read}
use Rattle.scheduler.specs.Orders.{clashes}
use Rattle.scheduler.specs.Blockers.{In, Rule, blockers}
use Rattle.scheduler.specs.Fresh.{Fresh}
use Rattle.scheduler.specs.Ledger.{holds, lock, missing, same_kind}
use Rattle.scheduler.proofs.Blocking.{no_writer}
use Rattle.scheduler.proofs.Locks.{in_holds, lock_eq, same_kind_eq}

-- a clash is the same lock once more, or a read behind another's write
clash_cases : (l m : Lock) → clashes l m ≡ true → (l.item ≡ m.item) × (((l.owner ≡ m.owner) × (l.kind ≡ m.kind)) ⊎ ((l.owner ≡ m.owner → ⊥) × (l.kind ≡ Write) × (m.kind ≡ Read)))
clash_cases l m e =
    let p = and_parts (eqb l.item m.item) ((eqb l.owner m.owner && same_kind l.kind m.kind) || (not (eqb l.owner m.owner) && (same_kind l.kind Write && same_kind m.kind Read))) e in (
      eqb-true l.item m.item p.0,
      elim (or_cases (eqb l.owner m.owner && same_kind l.kind m.kind) (not (eqb l.owner m.owner) && (same_kind l.kind Write && same_kind m.kind Read)) p.1) [
        | inl h ↦
            let q = and_parts (eqb l.owner m.owner) (same_kind l.kind m.kind) h in
            inl (eqb-true l.owner m.owner q.0, same_kind_eq l.kind m.kind q.1)
        | inr h ↦
            let q = and_parts (not (eqb l.owner m.owner)) (same_kind l.kind Write && same_kind m.kind Read) h in
            let k = and_parts (same_kind l.kind Write) (same_kind m.kind Read) q.1 in
            inr (eqb-false l.owner m.owner (not-true (eqb l.owner m.owner) q.0), same_kind_eq l.kind Write k.0, same_kind_eq m.kind Read k.1)
      ],
    )

no_clash : (l m : Lock) → (clashes l m ≡ true → ⊥) → clashes l m ≡ false
no_clash l m n = elim (cases_Bool (clashes l m)) [ inl e ↦ absurd (n e) | inr e ↦ e ]

twice : (t i : ℕ) (k : Kind) (ls : List Lock) (l : Lock) → In l ls → l.item ≡ i → l.owner ≡ t → l.kind ≡ k → holds t i k ls ≡ true
twice t i k ls l m a b c = in_holds t i k ls (subst (λ (x : Lock). In x ls) (lock_eq b a c) m)

pub fresh-read : (ok : Rule) → ok Read Write ≡ false → (t i : ℕ) (ls : List Lock) → blockers ok ls t (ask_read i) ≡ [] → holds t i Read ls ≡ false → holds t i Write ls ≡ false → Fresh ls (lock t i Read)
fresh-read ok law t i ls free r w l m = no_clash l (lock t i Read) (λ e. let c = clash_cases l (lock t i Read) e in elim c.1 [
  | inl s ↦ both_ways (holds t i Read ls) r (twice t i Read ls l m c.0 s.0 s.1)
  | inr s ↦ no_writer ok law t i ls free w l m s.1 c.0 s.0
])

pub fresh-write : (t i : ℕ) (ls : List Lock) → holds t i Write ls ≡ false → Fresh ls (lock t i Write)
fresh-write t i ls w l m = no_clash l (lock t i Write) (λ e. let c = clash_cases l (lock t i Write) e in elim c.1 [
  | inl s ↦ both_ways (holds t i Write ls) w (twice t i Write ls l m c.0 s.0 s.1)
  | inr s ↦ both_ways (same_kind Write Read) refl (ap (λ (k : Kind). same_kind k Read) s.2)
])

-- the lock that is missing may be put at the end
pub missing-read : (ok : Rule) → ok Read Write ≡ false → (t i : ℕ) (ls : List Lock) → blockers ok ls t (ask_read i) ≡ [] → IfSome (missing t i Read ls) (Fresh ls)
missing-read ok law t i ls free = go (holds t i Read ls || holds t i Write ls) refl
  where
    go : (b : Bool) → (holds t i Read ls || holds t i Write ls) ≡ b → IfSome (cond b None (Some (lock t i Read))) (Fresh ls)
    go true e = tt
    go false e = let parts = or_parts (holds t i Read ls) (holds t i Write ls) e in fresh-read ok law t i ls free parts.0 parts.1

pub missing-write : (t i : ℕ) (ls : List Lock) → IfSome (missing t i Write ls) (Fresh ls)
missing-write t i ls = go (holds t i Write ls) refl
  where
    go : (b : Bool) → holds t i Write ls ≡ b → IfSome (cond b None (Some (lock t i Write))) (Fresh ls)
    go true e = tt
    go false e = fresh-write t i ls e
