-- `reads::next_entry` meets its contract: the entries from `from` to the one before i are cleared. Assumes nothing.
use mathlib.Core.List.{[]}
use Prim.Native.Nat.{◌-◌}
use Rattle.model.specs.Entries.{first}
use Rattle.model.specs.Growth.{tabulate}
use Rattle.store.specs.Written.{entry_at}
use Rattle.reads.proofs.Walking.{Walking}
use Rattle.reads.proofs.next_entry.Given as goal

abbrev pub invariant-loop-i : goal.invariant-loop-i
invariant-loop-i l = Walking (first (tabulate (l.entries.count - l.from) (entry_at l.entries.words.now) l.from)) (entry_at l.entries.words.now) l.entries.count [] l.i
