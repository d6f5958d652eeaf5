-- `reads::double` meets its contract: on a right index, what is left of the doubling gives the answer. Assumes nothing.
use mathlib.Core.Path.{sym, ◌∙◌}
use mathlib.Core.Logic.{inl, inr}
use Prim.Native.Nat.{◌*◌}
use native.Mathlib.Omega.{arith}
use Rattle.key.specs.Canonical.{largest}
use Rattle.reads.proofs.Halving.{doubling-turn, doubling-end}
use Rattle.reads.proofs.Rounds.{last_less, doubled-less}
use Rattle.reads.proofs.double.Goals as goal

pub returns-then-not-has_entry : goal.returns-then-not-has_entry
returns-then-not-has_entry c =
    let loop = c.loop-max in
    record {
      range = (omega arith, omega arith);
      right = λ R. sym (doubling-end _ _ loop.max (inl (sym (c.has_entry.ensures R) ∙ c.if-not-has_entry.true)) (loop.invariant.2 R));
    }

pub loop-max-smaller-then-max : goal.loop-max-smaller-then-max
loop-max-smaller-then-max c =
    last_less c.loop-max.max c.loop-max-test.true

pub loop-max-preserved-then-max : goal.loop-max-preserved-then-max
loop-max-preserved-then-max c = (
  omega arith,
  omega arith,
  λ R. let loop = c.loop-max in
      doubling-turn _ _ loop.max largest (omega arith) c.loop-max-test.true
      (sym (c.has_entry.ensures R) ∙ c.if-not-has_entry.false) (loop.invariant.2 R),
)

pub loop-max-smaller : goal.loop-max-smaller
loop-max-smaller c =
    doubled-less c.loop-max.max c.loop-max-test.true (omega arith) (omega arith)

pub loop-max-preserved : goal.loop-max-preserved
loop-max-preserved c = (
  omega arith,
  omega arith,
  λ R. let loop = c.loop-max in
      doubling-turn _ _ loop.max (2 * loop.max) (omega arith) c.loop-max-test.true
      (sym (c.has_entry.ensures R) ∙ c.if-not-has_entry.false) (loop.invariant.2 R),
)

pub returns : goal.returns
returns c =
    record {
      range = (omega arith, omega arith);
      right = λ R. sym (doubling-end _ _ c.loop-max.max (inr c.loop-max-test.false) (c.loop-max.invariant.2 R));
    }
