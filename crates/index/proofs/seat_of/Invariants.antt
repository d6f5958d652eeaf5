-- `index::seat_of` meets its contract: a climb from home that stops at no word of an earlier entry. Assumes nothing.
use Rattle.std.proofs.Common.{length}
use Rattle.index.specs.Index.{not_before}
use Rattle.index.proofs.Climb.{Going}
use Rattle.index.proofs.seat_of.Given as goal

abbrev pub invariant-loop : goal.invariant-loop
invariant-loop l = Going (not_before l.i) (length l.index) l.index l.home l.counter l.place
