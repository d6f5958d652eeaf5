-- `reads::halve` meets its contract: on a sound store, what is left of the halving gives the answer. Assumes nothing.
use mathlib.Core.Path.{sym, ◌∙◌}
use mathlib.Core.Bool.{true, false}
use Prim.Native.Nat.{◌-◌}
use native.Mathlib.Omega.{arith}
use Rattle.reads.proofs.Halving.{halving-turn, halving-end}
use Rattle.reads.proofs.Rounds.{halved-less}
use Rattle.reads.proofs.halve.Goals as goal

pub loop-max-smaller-then-is_nil_at : goal.loop-max-smaller-then-is_nil_at
loop-max-smaller-then-is_nil_at c =
    let loop = c.loop-max in
    halved-less (loop.max - loop.min) _ c.loop-max-test.true (omega arith)

pub loop-max-preserved-then-is_nil_at : goal.loop-max-preserved-then-is_nil_at
loop-max-preserved-then-is_nil_at c =
    let loop = c.loop-max in (
      omega arith,
      omega arith,
      λ S. halving-turn _ _ loop.min loop.max true c.loop-max-test.true (sym (c.is_nil_at.ensures S) ∙ c.if-is_nil_at.true) (loop.invariant.2 S),
    )

pub loop-max-smaller : goal.loop-max-smaller
loop-max-smaller c =
    let loop = c.loop-max in
    halved-less (loop.max - loop.min) _ c.loop-max-test.true (omega arith)

pub loop-max-preserved : goal.loop-max-preserved
loop-max-preserved c =
    let loop = c.loop-max in (
      omega arith,
      omega arith,
      λ S. halving-turn _ _ loop.min loop.max false c.loop-max-test.true (sym (c.is_nil_at.ensures S) ∙ c.if-is_nil_at.false) (loop.invariant.2 S),
    )

pub returns : goal.returns
returns c =
    λ S. sym (halving-end _ _ c.loop-max.min c.loop-max.max c.loop-max-test.false (c.loop-max.invariant.2 S))
