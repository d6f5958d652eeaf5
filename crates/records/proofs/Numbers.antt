-- Numbers as bytes, the lowest byte first: so many bytes hold exactly the numbers below that power of 256. Assumes nothing.
use mathlib.Core.Path.{◌≡◌, refl, ap}
use mathlib.Core.List.{List, [], ◌∷◌, ◌++◌, append-nil}
use Prim.Native.Nat.{ℕ, zero, suc, ◌+◌, ◌*◌, ◌/◌, ◌%◌, ◌^◌, ◌≤◌, ◌<◌}
use native.Mathlib.Nat.{div-lt_iff_lt-mul, pow-suc}
use native.Mathlib.Omega.{arith}
use lib.Dec.{ltb, lit<}
use lib.ListN.{length, get_or, take, drop, replicate, length-append, length-take, get_or-eq_default}
use lib.Seq.{drop-cons, get_or-take, get_or-drop}
use borrow.Author.Tests.{ltb-true, ltb-false}
use Rattle.std.specs.Int.{w64, from_le_bytes}
use Rattle.value.specs.declared.Words.{Words}
use Rattle.value.proofs.Cases.{caseb}
use Rattle.records.specs.Bytes.{AllBytes, number, little_endian, value_bytes, head_bytes}

pub length-bytes : (k n : ℕ) → length (little_endian k n) ≡ k
unfolding little_endian
length-bytes zero n = refl
length-bytes (suc k) n = ap suc (length-bytes k (n / 256))

pub length-value : (w : Words) → length (value_bytes w) ≡ 9
length-value w = simp (length-append, length-bytes)

pub length-head : (n k : ℕ) → length (head_bytes n k) ≡ 4
length-head n k = simp (length-append, length-bytes)

pub number-bytes : (k n : ℕ) → n < 256 ^ k → number (little_endian k n) ≡ n
unfolding little_endian number
number-bytes zero n h = omega arith
number-bytes (suc k) n h =
    let below : n / 256 < 256 ^ k = (div-lt_iff_lt-mul (lit< tt)).1 (rw pow-suc at h) in
    omega (arith, number-bytes k (n / 256) below)

pub bytes-number : (bs : List ℕ) → AllBytes bs → little_endian (length bs) (number bs) ≡ bs
unfolding little_endian number
bytes-number [] h = refl
bytes-number (b ∷ bs) h =
    let first : (b + 256 * number bs) % 256 ≡ b = omega (arith, h 0) in
    let rest : (b + 256 * number bs) / 256 ≡ number bs = omega (arith, h 0) in
    rw (first, rest, bytes-number bs (λ i. h (suc i)))

-- bytes, k at most
pub number-below : (k : ℕ) (bs : List ℕ) → AllBytes bs → length bs ≤ k → number bs < 256 ^ k
unfolding number
number-below zero [] h l = lit< tt
number-below zero (b ∷ bs) h l = omega arith
number-below (suc k) [] h l = omega (arith, number-below k [] h (omega arith))
number-below (suc k) (b ∷ bs) h l = omega (arith, h 0, number-below k bs (λ i. h (suc i)) (omega arith))

-- ---- a part of bytes
pub take-bytes : (n : ℕ) (bs : List ℕ) → AllBytes bs → AllBytes (take n bs)
take-bytes n bs h i =
    caseb (ltb i n)
    (λ t. rw (get_or-take n bs i 0 (ltb-true i n t)) (h i))
    (λ t. let past : length (take n bs) ≤ i = omega (arith, length-take n bs, ltb-false i n t) in
    rw (get_or-eq_default (take n bs) 0 past) (lit< tt))

pub drop-bytes : (n : ℕ) (bs : List ℕ) → AllBytes bs → AllBytes (drop n bs)
drop-bytes n bs h i = rw (get_or-drop n bs i 0) (h (n + i))

pub number-part : (n at : ℕ) (bs : List ℕ) → AllBytes bs → number (take n (drop at bs)) < 256 ^ n
number-part n at bs h =
    number-below n (take n (drop at bs)) (take-bytes n (drop at bs) (drop-bytes at bs h)) (omega (arith, length-take n (drop at bs)))

-- ---- as the program reads them
pub number-byte : (at : ℕ) (bs : List ℕ) → at < length bs → number (take 1 (drop at bs)) ≡ get_or bs at 0
unfolding number
number-byte at bs h = rw (drop-cons bs at 0) (omega arith)

-- 8 bytes at most, with zeros after them
pub padded : (bs : List ℕ) → length bs ≤ 8 → from_le_bytes w64 (bs ++ drop (length bs) (replicate 8 0)) ≡ number bs
unfolding number
padded [] h = refl
padded (a ∷ []) h = omega arith
padded (a ∷ b ∷ []) h = omega arith
padded (a ∷ b ∷ c ∷ []) h = omega arith
padded (a ∷ b ∷ c ∷ d ∷ []) h = omega arith
padded (a ∷ b ∷ c ∷ d ∷ e ∷ []) h = omega arith
padded (a ∷ b ∷ c ∷ d ∷ e ∷ f ∷ []) h = omega arith
padded (a ∷ b ∷ c ∷ d ∷ e ∷ f ∷ g ∷ []) h = omega arith
padded (a ∷ b ∷ c ∷ d ∷ e ∷ f ∷ g ∷ i ∷ []) h = omega arith
padded (a ∷ b ∷ c ∷ d ∷ e ∷ f ∷ g ∷ i ∷ j ∷ bs) h = absurd (omega arith)

pub number-word : (bs : List ℕ) → length bs ≡ 8 → from_le_bytes w64 bs ≡ number bs
number-word bs h =
    let none : drop {A = ℕ} (length bs) (replicate 8 0) ≡ [] = rw h in
    rw (none, append-nil bs) at (padded bs (omega arith))
