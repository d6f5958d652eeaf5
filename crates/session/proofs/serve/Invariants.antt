-- `session::serve` meets its contract. The loop's invariant is `Underway`; each turn takes bytes of the input, or is the last. Assumes nothing.
use Rattle.std.proofs.Common.{◌+◌, ◌-◌, cond, length}
use Rattle.store.specs.Store.{slices, store_of}
use Rattle.session.proofs.Turns.{Underway}
use Rattle.session.proofs.serve.Given as goal

abbrev pub invariant-loop-done : goal.invariant-loop-done
invariant-loop-done l =
    Underway (store_of l.initial.array l.initial.entries l.initial.index l.initial.done.sizes) l.input l.last l.initial.output (slices l.array l.entries l.index) l.output l.done

abbrev pub decreases-loop-done : goal.decreases-loop-done
decreases-loop-done l = cond l.done.stopped 0 (1 + (length l.input - l.done.taken))
