-- `index::take_out` meets its contract: after the turn of entry i the index is that of the first i. Assumes nothing.
use Rattle.std.proofs.Common.{◌≤◌}
use Rattle.index.specs.Index.{Indexes}
use Rattle.index.proofs.take_out.Given as goal

abbrev pub invariant-loop-i : goal.invariant-loop-i
invariant-loop-i l = (l.first ≤ l.i) × (Indexes l.entries.words.now l.entries.count l.initial.index → Indexes l.entries.words.now l.i l.index)
