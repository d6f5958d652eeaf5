-- `reads::next_pair` meets its contract: the array values from place `from` to the one before i are Nil. Assumes nothing.
use mathlib.Core.Path.{sym, ap, ◌∙◌}
use native.Mathlib.Omega.{arith}
use Rattle.value.specs.Same.{is_nil}
use Rattle.reads.proofs.Walking.{walking-turn}
use Rattle.reads.proofs.next_pair.Goals as goal

pub loop-i-preserved : goal.loop-i-preserved
loop-i-preserved c =
    let loop = c.loop-i in
    let cleared = ap is_nil (sym c.value_at-v.ensures) ∙ sym c.is_nil.ensures ∙ c.if-not-is_nil.false in
    walking-turn _ _ _ _ _ loop.invariant (omega arith) cleared
