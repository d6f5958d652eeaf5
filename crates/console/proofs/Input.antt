-- The words of the input, as chunks of 8 bytes. Assumes nothing.
use mathlib.Core.Path.{◌≡◌, refl, ◌∙◌}
use mathlib.Core.List.{List}
use Prim.Native.Nat.{ℕ, zero, suc, ◌+◌, ◌*◌, ◌/◌, ◌<◌}
use native.Mathlib.Omega.{arith}
use lib.ListN.{length, get_or, take, drop, length-drop}
use lib.Seq.{drop-drop, length-take-le}
use Rattle.std.specs.Int.{w64, from_le_bytes}
use Rattle.std.specs.Simd.{first_chunks}
use Rattle.records.proofs.Numbers.{number-word}
use Rattle.console.specs.Input.{word_at}

chunk-at : (k i : ℕ) (bs d : List ℕ) → i < k → get_or (first_chunks 8 k bs) i d ≡ take 8 (drop (8 * i) bs)
chunk-at zero i bs d h = absurd (omega arith)
chunk-at (suc k) zero bs d h = refl
chunk-at (suc k) (suc i) bs d h =
    let next : 8 * suc i ≡ 8 + 8 * i = omega arith in
    chunk-at k i (drop 8 bs) d (omega arith) ∙ rw (drop-drop (8 * i) 8 bs, next)

pub word-chunk : (bs d : List ℕ) (i : ℕ) → i < length bs / 8 → from_le_bytes w64 (get_or (first_chunks 8 (length bs / 8) bs) i d) ≡ word_at bs (8 * i)
word-chunk bs d i h =
    rw (chunk-at (length bs / 8) i bs d h)
    (number-word (take 8 (drop (8 * i) bs)) (length-take-le 8 (drop (8 * i) bs) (omega (arith, length-drop (8 * i) bs))))
