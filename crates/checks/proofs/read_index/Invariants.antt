-- `checks::read_index`: the first i words are read. Assumes nothing.
use Rattle.std.proofs.Common.{◌%◌, get_or}
use Rattle.console.specs.Input.{Holds}
use Rattle.checks.proofs.read_index.Given as goal

abbrev pub invariant-loop-i : goal.invariant-loop-i
invariant-loop-i l = Holds (λ j. get_or l.words j 0 % 65536) l.i l.index
