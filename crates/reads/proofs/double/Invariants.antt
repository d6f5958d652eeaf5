-- `reads::double` meets its contract: on a right index, what is left of the doubling gives the answer. Assumes nothing.
use Prim.Native.Nat.{◌≤◌}
use Rattle.key.specs.Canonical.{integer, largest}
use Rattle.index.specs.Index.{Right}
use Rattle.model.specs.Entries.{has}
use Rattle.model.specs.Length.{double}
use Rattle.store.specs.Written.{entries_in}
use Rattle.reads.proofs.Halving.{Doubling}
use Rattle.reads.proofs.Rounds.{doublings}
use Rattle.reads.proofs.double.Given as goal

abbrev pub invariant-loop-max : goal.invariant-loop-max
invariant-loop-max l = (l.from ≤ l.max) × (l.max ≤ largest) × (Right l.entries.words.now l.entries.count l.index → Doubling (λ n. has (entries_in l.entries.words.now l.entries.count) (integer n)) (double (λ n. has (entries_in l.entries.words.now l.entries.count) (integer n)) 64 l.from) l.max)

abbrev pub decreases-loop-max : goal.decreases-loop-max
decreases-loop-max l = doublings l.max
