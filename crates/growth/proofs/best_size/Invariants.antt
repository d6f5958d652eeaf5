-- `growth::best_size` meets its contract: the size is the best by the classes before this one. Assumes nothing.
use Rattle.std.proofs.Common.{List, ℕ, ◌+◌, ◌*◌, ◌≤◌}
use Rattle.store.specs.Limits.{array_limit, entry_limit}
use Rattle.growth.specs.Counts.{Holds}
use Rattle.growth.proofs.Best.{Sized}
use Rattle.growth.proofs.best_size.Given as goal

abbrev pub invariant-loop-class : goal.invariant-loop-class
invariant-loop-class l = (l.total ≤ l.class * (array_limit + entry_limit + 1)) × ((is : List ℕ) → Holds is l.count-items → Sized is l.room l.class l.size l.total)
