-- `replay::digest_of`: a remainder is below the modulus. Assumes nothing.
use Rattle.std.proofs.Common.{◌<◌}
use Rattle.replay.specs.declared.TheConstants.{MODULUS}
use Rattle.replay.proofs.digest_of.Given as goal

abbrev pub invariant-loop-byte : goal.invariant-loop-byte
invariant-loop-byte l = l.n < MODULUS
