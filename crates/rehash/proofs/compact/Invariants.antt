-- `rehash::compact` meets its contract. Assumes nothing.
use Rattle.rehash.specs.Rehash.{Compacted}
use Rattle.rehash.proofs.compact.Given as goal

abbrev pub invariant-loop-i : goal.invariant-loop-i
invariant-loop-i l = Compacted l.initial.array l.initial.entries l.first l.size l.i l.n l.array l.entries
