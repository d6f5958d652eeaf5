-- `trace::take_turns`: the loop's invariant is `Running`. Assumes nothing.
use Rattle.store.specs.Store.{store_of}
use Rattle.trace.specs.Run.{streams}
use Rattle.trace.proofs.Running.{Running}
use Rattle.trace.proofs.take_turns.Given as goal

abbrev pub invariant-loop : goal.invariant-loop
invariant-loop g l =
    Running (streams (g.R.Read.remaining l.initial.stdin) (g.W.Write.contents l.initial.stdout))
    (streams (g.R.Read.remaining l.stdin) (g.W.Write.contents l.stdout))
    (store_of l.initial.array l.initial.entries l.initial.index l.initial.now) (store_of l.array l.entries l.index l.now) l.input l.output l.held l.counter
