-- `trace::turn` meets its contract. Assumes nothing.
use Rattle.std.proofs.Common.{rules}
use Rattle.store.specs.Store.{slices}
use Rattle.trace.proofs.Turning.{turn-answers}
use Rattle.trace.proofs.turn.Goals as goal

pub returns-clause-answered : goal.returns-clause-answered
returns-clause-answered g c =
    let read = c.read_some-got in
    let served = c.serve-progress in
    turn-answers {a = slices served.new.array served.new.entries served.new.index} _ _ _ _ c.requires.sound (search rules) c.requires.rooms
    read.auto.room read.ensures.within served.ensures.served_into served.ensures.waits
