-- `trace::take_turns` meets its contract. Assumes nothing.
use Rattle.std.proofs.Common.{sym, ◌∙◌, arith}
use Rattle.std.proofs.lemmas.Result.{err_from_is_err_and}
use Rattle.trace.proofs.Running.{running-start, running-turn, running-stops, running-unwritten, running-spent}
use Rattle.trace.proofs.take_turns.Goals as goal

pub loop-init : goal.loop-init
loop-init g c = running-start _ _ _ _ c.requires (sym c.room-input.ensures) (sym c.room-output.ensures)

pub returns-in_err-send : goal.returns-in_err-send
returns-in_err-send g c =
    let failed = err_from_is_err_and c.from_residual.result c.from_residual.ensures.1 in
    rw failed.1 (running-unwritten _ _ _ c.loop.invariant c.turn-got.ensures.answered c.turn-got.ensures.came failed.0 c.loop-test.true)

pub returns-then-progress : goal.returns-then-progress
returns-then-progress g c =
    running-stops _ _ _ c.loop.invariant c.turn-got.ensures.answered c.turn-got.ensures.came c.in_ok-send.ensures c.if-progress.true c.loop-test.true

pub loop-preserved : goal.loop-preserved
loop-preserved g c =
    let kept = c.turn-got.auto in
    running-turn _ _ _ c.loop.invariant c.turn-got.ensures.answered c.turn-got.ensures.came c.in_ok-send.ensures c.if-progress.false _ _
    (c.keep-held.auto.bytes ∙ kept.input) kept.output c.keep-held.ensures.0 c.keep-held.ensures.1

pub returns : goal.returns
returns g c = running-spent _ _ c.loop.invariant (omega (arith, c.loop-test.false, c.loop.auto.counter-end))
