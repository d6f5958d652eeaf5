-- `records::value_in` meets its contract. Assumes nothing.
use native.Mathlib.Omega.{arith}
use Rattle.records.proofs.Numbers.{number-byte}
use Rattle.records.proofs.value_in.Goals as goal

pub returns : goal.returns
returns c = grind (arith, number-byte)
