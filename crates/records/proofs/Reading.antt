-- What the arms of both readers share: the kind picks the record, and behind its bytes lies the rest of the input.
use Rattle.std.proofs.Common.{◌≡◌, ℕ, zero, suc, ◌+◌, ◌≤◌, List, [], ◌∷◌, ◌++◌, length, get_or, drop, ℤ, Ok, ap, ◌∙◌, arith, w8, w32, Fits, to_z, of_z}
use Rattle.std.proofs.lemmas.Int.{of_z-to_z}
use Rattle.std.proofs.lemmas.Bool.Decides.{nat_tests}
use Rattle.records.specs.Layout.{big_endian, bytes, whole, Reading}
use Rattle.records.proofs.Widths.{Bytes, back, number_below}

is_whole : {R : Type 0} (n : ℕ) (q : R) (xs rest : List ℕ) → n ≤ length xs → rest ≡ drop n xs → whole n q xs ≡ Ok (q, rest)
is_whole n q xs rest h e = grind (arith, nat_tests)

pub bytes_cons : (k : ℕ) (xs : List ℕ) → Fits w8 k → Bytes xs → Bytes (k ∷ xs)
bytes_cons k xs f b zero = f
bytes_cons k xs f b (suc i) = b i

-- a signed value goes back to the four bytes that it was read from
pub value-back : (xs : List ℕ) (i : ℕ) → Bytes xs → i + 4 ≤ length xs → bytes 4 (of_z w32 (to_z w32 (big_endian 4 xs i))) ++ drop (i + 4) xs ≡ drop i xs
value-back xs i b h = ap (λ n. bytes 4 n ++ drop (i + 4) xs) (of_z-to_z w32 (big_endian 4 xs i) (number_below 4 xs i b)) ∙ back 4 xs i b h

-- `read` reads records, those of the kind k by `of k`, and `bytes_of` writes them
module _ {R : Type 0} (read : List ℕ → Reading R) (of : ℕ → List ℕ → Reading R) (bytes_of : R → List ℕ) (step : (k : ℕ) (bs : List ℕ) → read (k ∷ bs) ≡ of k (k ∷ bs)) where
  -- the record q, whose body has n bytes, at the start of xs
  pub record_read : (k n : ℕ) (q : R) (xs rest body : List ℕ)
      → get_or xs 0 0 ≡ k → suc n ≤ length xs → rest ≡ drop (suc n) xs → of k xs ≡ whole (suc n) q xs
      → bytes_of q ≡ k ∷ body → body ++ drop (suc n) xs ≡ drop 1 xs
      → (read xs ≡ Ok (q, rest)) × (bytes_of q ++ rest ≡ xs)
  record_read k n q [] rest body e h r o w b = absurd (omega arith)
  record_read k n q (x ∷ xs) rest body e h r o w b =
      let s = is_whole (suc n) q (x ∷ xs) rest h r in
      let t = step x xs in
      (cc, cc)

  pub one_number : (k : ℕ) (make : ℕ → R)
      → ((xs : List ℕ) → of k xs ≡ whole 3 (make (big_endian 2 xs 1)) xs) → ((a : ℕ) → bytes_of (make a) ≡ k ∷ bytes 2 a)
      → (xs rest : List ℕ) (a : ℕ) → Bytes xs → get_or xs 0 0 ≡ k → 3 ≤ length xs → rest ≡ drop 3 xs → a ≡ big_endian 2 xs 1
      → (read xs ≡ Ok (make a, rest)) × (bytes_of (make a) ++ rest ≡ xs)
  one_number k make o w xs rest a b e h r p =
      rw p (record_read k 2 (make (big_endian 2 xs 1)) xs rest _ e h r (o xs) (w _) (back 2 xs 1 b h))

  pub two_numbers : (k : ℕ) (make : ℕ → ℕ → R)
      → ((xs : List ℕ) → of k xs ≡ whole 5 (make (big_endian 2 xs 1) (big_endian 2 xs 3)) xs) → ((a b : ℕ) → bytes_of (make a b) ≡ k ∷ (bytes 2 a ++ bytes 2 b))
      → (xs rest : List ℕ) (a b : ℕ) → Bytes xs → get_or xs 0 0 ≡ k → 5 ≤ length xs → rest ≡ drop 5 xs → a ≡ big_endian 2 xs 1 → b ≡ big_endian 2 xs 3
      → (read xs ≡ Ok (make a b, rest)) × (bytes_of (make a b) ++ rest ≡ xs)
  two_numbers k make o w xs rest a b t e h r p q =
      rw (p, q) (record_read k 4 (make (big_endian 2 xs 1) (big_endian 2 xs 3)) xs rest _ e h r (o xs) (w _ _)
      (ap (λ z. bytes 2 (big_endian 2 xs 1) ++ z) (back 2 xs 3 t h) ∙ back 2 xs 1 t (omega arith)))

  pub numbers_and_value : (k : ℕ) (make : ℕ → ℕ → ℤ → R)
      → ((xs : List ℕ) → of k xs ≡ whole 9 (make (big_endian 2 xs 1) (big_endian 2 xs 3) (to_z w32 (big_endian 4 xs 5))) xs)
      → ((a b : ℕ) (v : ℤ) → bytes_of (make a b v) ≡ k ∷ (bytes 2 a ++ (bytes 2 b ++ bytes 4 (of_z w32 v))))
      → (xs rest : List ℕ) (a b : ℕ) (v : ℤ) → Bytes xs → get_or xs 0 0 ≡ k → 9 ≤ length xs → rest ≡ drop 9 xs
      → a ≡ big_endian 2 xs 1 → b ≡ big_endian 2 xs 3 → v ≡ to_z w32 (big_endian 4 xs 5)
      → (read xs ≡ Ok (make a b v, rest)) × (bytes_of (make a b v) ++ rest ≡ xs)
  numbers_and_value k make o w xs rest a b v t e h r p q s =
      rw (p, q, s) (record_read k 8 (make (big_endian 2 xs 1) (big_endian 2 xs 3) (to_z w32 (big_endian 4 xs 5))) xs rest _ e h r (o xs) (w _ _ _)
      (ap (λ z. bytes 2 (big_endian 2 xs 1) ++ (bytes 2 (big_endian 2 xs 3) ++ z)) (value-back xs 5 t h)
      ∙ ap (λ z. bytes 2 (big_endian 2 xs 1) ++ z) (back 2 xs 3 t (omega arith)) ∙ back 2 xs 1 t (omega arith)))
