-- `console::read_words`: the first i words are read. Assumes nothing.
use Rattle.std.proofs.Common.{◌*◌}
use Rattle.console.specs.Input.{word_at, Holds}
use Rattle.console.proofs.read_words.Given as goal

abbrev pub invariant-loop-i : goal.invariant-loop-i
invariant-loop-i l = Holds (λ j. word_at l.bytes (8 * j)) l.i l.words
