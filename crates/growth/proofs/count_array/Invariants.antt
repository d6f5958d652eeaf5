-- `growth::count_array` meets its contract: the values at places below a class are counted. Assumes nothing.
use Rattle.std.proofs.Common.{◌≡◌}
use Rattle.store.specs.Written.{pair_at}
use Rattle.growth.specs.Counts.{Counted}
use Rattle.growth.proofs.Turns.{firsts}
use Rattle.growth.proofs.Ranges.{places_below}
use Rattle.growth.proofs.count_array.Given as goal

abbrev pub invariant-loop-class : goal.invariant-loop-class
invariant-loop-class l = (l.from ≡ places_below l.class l.size) × Counted (firsts (pair_at l.array) l.from) l.fn.counts l.count-items
