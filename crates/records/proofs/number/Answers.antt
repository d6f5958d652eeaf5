-- `records::number` meets its contract. Assumes nothing.
use mathlib.Core.Path.{◌∙◌}
use Rattle.records.proofs.Numbers.{padded}
use Rattle.records.proofs.number.Goals as goal

pub returns : goal.returns
returns c = c.from_le_bytes.ensures ∙ rw c.copy_from_slice.ensures.after (padded c.args.bytes.now c.requires)
