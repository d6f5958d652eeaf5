-- `checks::run` ends: after each record fewer words are left. Assumes nothing.
use Rattle.std.proofs.Common.{length, ◌≤◌}
use Rattle.console.specs.Input.{word_room}
use Rattle.checks.proofs.run.Given as goal

abbrev pub invariant-loop-words : goal.invariant-loop-words
invariant-loop-words g l = length l.words ≤ word_room

abbrev pub decreases-loop-words : goal.decreases-loop-words
decreases-loop-words g l = length l.words
