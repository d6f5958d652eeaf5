-- `key::number_key` meets its contract. Assumes nothing.
use mathlib.Core.Path.{◌≡◌, sym, ap, ◌∙◌, subst}
use mathlib.Core.Bool.{Bool, false}
use Prim.Native.Nat.{ℕ}
use lib.Ieee.{binary64, of_bits, nan_bits}
use Rattle.std.specs.Prelude.{Option, None, Ok}
use Rattle.key.specs.Canonical.{whole_of, key_of, number_key}
use Rattle.key.proofs.Ratios.{Small, small}
use Rattle.key.proofs.number_key.Goals as goal

-- past the test for a NaN
past : (b : ℕ) (w : Option (Bool × ℕ)) → nan_bits binary64 b ≡ false → w ≡ whole_of (of_bits binary64 b) → Ok (key_of b w) ≡ number_key b
unfolding number_key
past b w h e = rw (h, e)

pub returns-then-is_nan : goal.returns-then-is_nan
unfolding number_key
returns-then-is_nan c = simp (sym c.is_nan.ensures ∙ c.if-is_nan.true)

pub whole_key-requires : goal.whole_key-requires
whole_key-requires c = subst Small (sym c.whole_of_bits.ensures ∙ c.in-Some.is) (small (of_bits binary64 c.args.bits))

pub returns-in-Some : goal.returns-in-Some
returns-in-Some c = ap Ok c.whole_key.ensures ∙ past c.args.bits _ (sym c.is_nan.ensures ∙ c.if-is_nan.false) (sym c.in-Some.is ∙ c.whole_of_bits.ensures)

pub returns-in-None : goal.returns-in-None
returns-in-None c = ap Ok c.new.ensures ∙ past c.args.bits None (sym c.is_nan.ensures ∙ c.if-is_nan.false) (sym c.in-None.is ∙ c.whole_of_bits.ensures)
