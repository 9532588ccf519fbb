-- One request further: what the bytes hold is that request, and what the rest holds.
use Rattle.std.proofs.Common.{◌≡◌, ℕ, zero, suc, ◌+◌, ◌-◌, ◌<◌, ◌≤◌, List, [], ◌∷◌, ◌++◌, length, drop, Ok, sym, refl, ap, ◌∙◌, arith}
use Rattle.std.proofs.lemmas.List.{drop_at, length-append}
use Rattle.records.specs.RequestRecords.{read_request, request_bytes}
use Rattle.records.specs.declared.request.Request.{Request}
use Rattle.records.specs.declared.request.Request.TheVariants.{Begin, Read, Write, Commit, Abort, Retry}
use Rattle.reading.specs.declared.file.Placed.{Placed}
use Rattle.reading.specs.Held.{Held, held, next}

-- what was found before, and then what is held
abbrev pub behind : List Placed → Held → Held
behind xs h = (xs ++ h.0, h.1)

abbrev pub placed : ℕ → Request → Placed
placed p q = record { place = p; request = q }

long : (q : Request) → 0 < length (request_bytes q)
long Begin = omega arith
long (Read t item) = omega arith
long (Write t item value) = omega arith
long (Commit t) = omega arith
long (Abort t) = omega arith
long (Retry t) = omega arith

skipped : (k p : ℕ) (bs : List ℕ) → k ≤ length bs → held k p bs ≡ held 0 (p + k) (drop k bs)
skipped zero p bs h = ap (λ j. held 0 j bs) (omega arith)
skipped (suc k) p [] h = absurd (omega arith)
skipped (suc k) p (b ∷ bs) h = skipped k (p + 1) bs (omega arith) ∙ ap (λ j. held 0 j (drop k bs)) (omega arith)

-- one request further
pub held-request : (p n : ℕ) (bs rest : List ℕ) (q : Request) → read_request bs ≡ Ok (q, rest) → request_bytes q ++ rest ≡ bs → n ≡ p + (length bs - length rest)
    → held 0 p bs ≡ behind (placed p q ∷ []) (held 0 n rest)
held-request p n [] rest q e w l = let z : ◌≡◌ {A = ℕ} 0 1 = cc in absurd (omega arith)
held-request p n (b ∷ bs) rest q e w l =
    let m = length (request_bytes q) - 1 in
    let o = long q in
    let s : length (request_bytes q) + length rest ≡ suc (length bs) = sym (length-append (request_bytes q) rest) ∙ ap length w in
    let k = skipped m (p + 1) bs (omega arith) in
    let i : suc m ≡ length (request_bytes q) = omega arith in
    let d : drop m bs ≡ rest = ap (λ j. drop j (b ∷ bs)) i ∙ ap (drop (length (request_bytes q))) (sym w) ∙ drop_at (request_bytes q) rest _ refl in
    let j : p + 1 + m ≡ n = omega arith in
    let t : held m (p + 1) bs ≡ held 0 n rest = k ∙ ap (λ x. held 0 x (drop m bs)) j ∙ ap (held 0 n) d in
    ap (λ r. next p r (λ skip. held skip (p + 1) bs)) e ∙ ap (behind (placed p q ∷ [])) t
