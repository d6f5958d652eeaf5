-- `growth::count_values` meets its contract: n of the values from `from` to i are not Nil. Assumes nothing.
use Rattle.std.proofs.Common.{◌≡◌, ◌-◌, ◌≤◌}
use Rattle.growth.specs.Counts.{count_of_values}
use Rattle.growth.proofs.count_values.Given as goal

abbrev pub invariant-loop-i : goal.invariant-loop-i
invariant-loop-i l = (l.n ≤ l.i - l.from) × (l.n ≡ count_of_values l.array l.from (l.i - l.from))
