-- `reads::next_entry` meets its contract: the entries from `from` to the one before i are cleared. Assumes nothing.
use mathlib.Core.Path.{sym, ap, ◌∙◌}
use native.Mathlib.Omega.{arith}
use Rattle.value.specs.Same.{is_nil}
use Rattle.reads.proofs.Walking.{walking-turn}
use Rattle.reads.proofs.next_entry.Goals as goal

pub loop-i-preserved : goal.loop-i-preserved
loop-i-preserved c =
    let i = c.loop-i in
    let cleared = ap is_nil (sym c.value-v.ensures) ∙ sym c.is_nil.ensures ∙ c.if-not-is_nil.false in
    walking-turn _ _ _ _ _ i.invariant (omega arith) cleared
