-- `reads::next_pair` meets its contract: the array values from place `from` to the one before i are Nil. Assumes nothing.
use mathlib.Core.List.{◌++◌}
use Prim.Native.Nat.{◌-◌}
use Rattle.model.specs.Entries.{first}
use Rattle.model.specs.Growth.{tabulate}
use Rattle.store.specs.Written.{pair_at, entries_in}
use Rattle.reads.proofs.Walking.{Walking}
use Rattle.reads.proofs.next_pair.Given as goal

abbrev pub invariant-loop-i : goal.invariant-loop-i
invariant-loop-i l = let rest = entries_in l.view.entries.now l.view.sizes.count in
    Walking (first (tabulate (l.view.sizes.size - l.from) (pair_at l.view.array.now) l.from ++ rest)) (pair_at l.view.array.now) l.view.sizes.size rest l.i
