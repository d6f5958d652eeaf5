-- The original's keys, written down from raw.rs: `f64_to_i64`, `canonical_float_bytes`, `CanonicalKey::new` and `to_array_index`.
-- `to_signed` and `of_int` are Rust's `as`: saturating, and rounding to nearest. Assumes nothing.
use Rattle.std.specs.Prelude.{false, cond, ℕ, zero, suc, eqb, ℤ, pos, negsuc, Float, Option, Some, None, Result, Ok, Err}
use Rattle.std.specs.Float.{fin, binary64}
use Rattle.std.specs.Float.Ieee.{of_bits, is_nan, eq, of_int, to_signed}
use Rattle.std.specs.Int.{w64}
use Rattle.std.proofs.Common.{of_z, to_z}
use Rattle.value.specs.declared.Words.{Words}
use Rattle.key.specs.Canonical.{integer, number}
use Rattle.value.specs.declared.refusal.Refusal.{Refusal}
use Rattle.value.specs.declared.refusal.Refusal.TheVariants.{KeyIsNil, KeyIsNan}

-- let i = n as i64; if i as f64 == n { some of i } else { none }
abbrev pub f64_to_i64 : {X : Type 0} → Float → (ℤ → X) → X → X
f64_to_i64 x some none = cond (eq (of_int binary64 (to_signed 63 x)) x) (some (to_signed 63 x)) none

abbrev pub canonical_float_bytes : Float → ℕ → ℕ
canonical_float_bytes x b = cond (eq x (fin false 0 (pos 0))) 0 b

unfoldable pub original_number_key : Float → ℕ → Result Words Refusal
original_number_key x b =
    cond (is_nan x) (Err KeyIsNan)
    (Ok (f64_to_i64 x (λ i. integer (of_z w64 i)) (number (canonical_float_bytes x b))))

unfoldable pub original_key : Words → Result Words Refusal
original_key w = cond (eqb w.kind 0) (Err KeyIsNil) (cond (eqb w.kind 3) (original_number_key (of_bits binary64 w.payload) w.payload) (Ok w))

-- if i > 0 { some of i - 1 } else { none }. A usize of 64 bits holds every i64 above 0, so its `try_from` never fails
abbrev pub from_i64 : ℤ → Option ℕ
from_i64 (pos zero) = None
from_i64 (pos (suc i)) = Some i
from_i64 (negsuc n) = None

unfoldable pub original_index : Words → Option ℕ
original_index w =
    cond (eqb w.kind 2) (from_i64 (to_z w64 w.payload))
    (cond (eqb w.kind 3) (f64_to_i64 (of_bits binary64 w.payload) from_i64 None) None)
