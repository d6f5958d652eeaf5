-- `index::place_from` meets its contract: after the turn of entry i the index is that of the first i + 1. Assumes nothing.
use Rattle.index.specs.Index.{Indexes}
use Rattle.index.proofs.place_from.Given as goal

abbrev pub invariant-loop-i : goal.invariant-loop-i
invariant-loop-i l = Indexes l.entries.words.now l.first l.initial.index → Indexes l.entries.words.now l.i l.index
