-- `value::float_word` meets its contract. Assumes nothing.
use Rattle.std.proofs.Common.{ap, ◌∙◌, sym}
use Rattle.std.specs.Float.{binary64}
use Rattle.std.specs.Float.Ieee.{to_bits}
use Rattle.value.proofs.Floats.{nan-one}
use Rattle.value.proofs.float_word.Goals as goal

pub returns-then-is_nan : goal.returns-then-is_nan
unfolding to_bits
returns-then-is_nan c = ap (to_bits binary64) (nan-one c.args.x (sym c.is_nan.ensures.value ∙ c.if-is_nan.true))
