-- The lock list stays orderly, and what that says of two locks in it.
use Rattle.std.proofs.Common.{◌≡◌, Bool, true, false, cond, not, List, [], ◌∷◌, ◌++◌, filter, refl}
use Rattle.std.proofs.lemmas.Bool.{and_parts, and_from, not_from_false}
use Rattle.scheduler.specs.declared.lock.Lock.{Lock}
use Rattle.scheduler.specs.Orders.{clashes, clear_of, orderly}
use Rattle.scheduler.specs.Blockers.{first, later}
use Rattle.scheduler.specs.Fresh.{Fresh}

clear-push : (l : Lock) (ms : List Lock) (m : Lock) → clear_of l ms ≡ true → clashes l m ≡ false → clear_of l (ms ++ m ∷ []) ≡ true
clear-push l [] m h e = and_from (not (clashes l m)) true (not_from_false (clashes l m) e) refl
clear-push l (n ∷ ms) m h e =
    let p = and_parts (not (clashes l n)) (clear_of l ms) h in
    and_from (not (clashes l n)) (clear_of l (ms ++ m ∷ [])) p.0 (clear-push l ms m p.1 e)

pub orderly-push : (ls : List Lock) (m : Lock) → orderly ls ≡ true → Fresh ls m → orderly (ls ++ m ∷ []) ≡ true
orderly-push [] m h f = refl
orderly-push (l ∷ ls) m h f =
    let p = and_parts (clear_of l ls) (orderly ls) h in
    and_from (clear_of l (ls ++ m ∷ [])) (orderly (ls ++ m ∷ [])) (clear-push l ls m p.0 (f l first)) (orderly-push ls m p.1 (λ x i. f x (later i)))

-- the same of a list that equals the grown one, whatever steps made it
pub orderly-grown : (ls : List Lock) (m : Lock) → orderly ls ≡ true → Fresh ls m → (grown : List Lock) → grown ≡ ls ++ m ∷ [] → orderly grown ≡ true
orderly-grown ls m h f grown e = rw e (orderly-push ls m h f)

clear_kept : (q : Lock → Bool) (l : Lock) (ms : List Lock) → clear_of l ms ≡ true → clear_of l (filter q ms) ≡ true
clear_kept q l [] h = refl
clear_kept q l (m ∷ ms) h =
    let p = and_parts (not (clashes l m)) (clear_of l ms) h in
    let rest = clear_kept q l ms p.1 in
    elim (q m) as (λ b. clear_of l (cond b (m ∷ filter q ms) (filter q ms)) ≡ true) [ true ↦ and_from (not (clashes l m)) (clear_of l (filter q ms)) p.0 rest | false ↦ rest ]

pub orderly_kept : (q : Lock → Bool) (ls : List Lock) → orderly ls ≡ true → orderly (filter q ls) ≡ true
orderly_kept q [] h = refl
orderly_kept q (l ∷ ls) h =
    let p = and_parts (clear_of l ls) (orderly ls) h in
    let rest = orderly_kept q ls p.1 in
    elim (q l) as (λ b. orderly (cond b (l ∷ filter q ls) (filter q ls)) ≡ true) [ true ↦ and_from (clear_of l (filter q ls)) (orderly (filter q ls)) (clear_kept q l ls p.0) rest | false ↦ rest ]
