-- `replay::replay`: a trace takes bytes, so that the counts stay below the file's length. Assumes nothing.
use Rattle.std.proofs.Common.{length, ◌+◌, ◌≤◌}
use Rattle.replay.proofs.replay.Given as goal

abbrev pub invariant-loop-input : goal.invariant-loop-input
invariant-loop-input l = (l.tally.traces + length l.rest ≤ length l.file) × (l.tally.otherwise ≤ l.tally.traces)

abbrev pub decreases-loop-input : goal.decreases-loop-input
decreases-loop-input l = length l.rest
