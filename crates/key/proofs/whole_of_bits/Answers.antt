-- `key::whole_of_bits` meets its contract: a pattern is read by its three fields. Assumes nothing.
use Rattle.std.specs.Float.Ieee.{of_bits}
use Rattle.key.proofs.whole_of_bits.Goals as goal

pub returns : goal.returns
unfolding of_bits
returns c = c.whole_of_fields.ensures
