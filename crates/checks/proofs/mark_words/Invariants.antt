-- `checks::mark_words`: the first i words are marked. Assumes nothing.
use Rattle.checks.specs.Marks.{MarkedBy}
use Rattle.checks.proofs.mark_words.Given as goal

abbrev pub invariant-loop-i : goal.invariant-loop-i
invariant-loop-i g l = MarkedBy g.T.From.from_gives l.i l.words
