-- `replay::same_as_sets`: the sum stays below the modulus, and each reply takes bytes. Assumes nothing.
use Rattle.std.proofs.Common.{length, ◌<◌}
use Rattle.replay.specs.declared.TheConstants.{MODULUS}
use Rattle.replay.proofs.same_as_sets.Given as goal

abbrev pub invariant-loop-own : goal.invariant-loop-own
invariant-loop-own l = l.owed < MODULUS

abbrev pub decreases-loop-own : goal.decreases-loop-own
decreases-loop-own l = length l.ours
