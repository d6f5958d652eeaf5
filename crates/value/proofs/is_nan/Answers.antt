-- `value::is_nan` meets its contract: a NaN's pattern, its sign dropped, is above an infinity's. Assumes nothing.
use Rattle.std.proofs.Common.{sym}
use Rattle.std.specs.Float.{binary64}
use lib.Ieee.Bits.{nan_bits_above}
use Rattle.value.proofs.is_nan.Goals as goal

pub returns : goal.returns
returns c = sym (nan_bits_above binary64 c.args.bits)
