-- The bytes of a number that was read are the bytes that it was read from, whatever their count.
use Rattle.std.proofs.Common.{◌≡◌, ℕ, zero, suc, ◌+◌, ◌*◌, ◌/◌, ◌%◌, ◌^◌, ◌<◌, ◌≤◌, List, ◌++◌, length, get_or, drop, sym, refl, ap, ◌∙◌, add-zero, mul_assoc, arith, w8, Fits}
use native.Mathlib.Nat.{mul-add-div_right, one-le-pow, pow-succ'}
use lib.Arith.{digits_lt, digits_div}
use Rattle.std.proofs.lemmas.List.{drop_more}
use Rattle.records.specs.Layout.{big_endian, bytes}

abbrev pub Bytes : List ℕ → Type 0
Bytes xs = (k : ℕ) → Fits w8 (get_or xs k 0)

pub number_below : (n : ℕ) (xs : List ℕ) (i : ℕ) → Bytes xs → big_endian n xs i < 256 ^ n
number_below zero xs i b = omega arith
number_below (suc n) xs i b = rw pow-succ' (digits_lt (b i).fits (number_below n xs (i + 1) b))

-- what stands above the n low bytes does not show in them
bytes_past : (n d m : ℕ) → bytes n (d * 256 ^ n + m) ≡ bytes n m
bytes_past zero d m = refl
bytes_past (suc n) d m =
    let p : zero < 256 ^ n = one-le-pow n 256 (omega arith) in
    let e : d * 256 ^ suc n ≡ d * 256 * 256 ^ n = ap (λ x. d * x) (pow-succ' 256 n) ∙ sym (mul_assoc d 256 (256 ^ n)) in
    let h = mul-add-div_right p (d * 256) m in
    let k : (d * 256 + m / 256 ^ n) % 256 ≡ m / 256 ^ n % 256 = omega arith in
    let t = bytes_past n (d * 256) m in
    cc

pub back : (n : ℕ) (xs : List ℕ) (i : ℕ) → Bytes xs → i + n ≤ length xs → bytes n (big_endian n xs i) ++ drop (i + n) xs ≡ drop i xs
back zero xs i b h = ap (λ j. drop j xs) (add-zero i)
back (suc n) xs i b h =
    let m = big_endian n xs (i + 1) in
    let q = digits_div (get_or xs i 0) (number_below n xs (i + 1) b) in
    let f = (b i).fits in
    let s : get_or xs i 0 % 256 ≡ get_or xs i 0 = omega arith in
    let p = bytes_past n (get_or xs i 0) m in
    let r = back n xs (i + 1) b (omega arith) in
    let e = drop_more xs i 0 (omega arith) in
    let j : i + 1 + n ≡ i + suc n = omega arith in
    cc
