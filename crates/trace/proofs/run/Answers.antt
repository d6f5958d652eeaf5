-- `trace::run` meets its contract: the store that it begins with is the trace's. Assumes nothing.
use Rattle.std.proofs.Common.{sym, subst}
use Rattle.store.specs.Written.{Sound}
use Rattle.session.proofs.Room.{trace-sound}
use Rattle.trace.proofs.run.Goals as goal

pub take_turns-requires : goal.take_turns-requires
take_turns-requires g c = subst Sound (sym c.begin-sizes.ensures) trace-sound
