-- `reads::border` meets its contract: each way through it is one law of the length. Assumes nothing.
use mathlib.Core.Path.{sym, ap, ◌∙◌}
use native.Mathlib.Omega.{arith}
use Rattle.value.specs.Same.{is_nil}
use Rattle.store.proofs.Sound.{right-index}
use Rattle.reads.proofs.Lengths.{length-within, length-array, length-largest, length-past}
use Rattle.reads.proofs.border.Goals as goal
use Rattle.reads.proofs.border.Goals.{else-size-gt0-via-then-size-gt0+else-is_nil, else-size-gt0-via-else-size-gt0, else-max-eq-LARGEST-via-then-max-eq-LARGEST+else-not-is_nil_at, else-max-eq-LARGEST-via-else-max-eq-LARGEST}

pub returns-then-is_nil : goal.returns-then-is_nil
returns-then-is_nil c =
    λ S. c.halve.ensures S
    ∙ sym (length-within _ c.if-size-gt0.true (ap is_nil (sym c.value_at.ensures) ∙ sym c.is_nil.ensures ∙ c.if-is_nil.true))

pub returns-then-view-eq0 : goal.returns-then-view-eq0
returns-then-view-eq0 c =
    λ S. sym (length-array _
    (λ h. elim c.else-size-gt0.branch [
      | else-size-gt0-via-then-size-gt0+else-is_nil w ↦ ap is_nil (sym w.value_at.ensures) ∙ sym w.is_nil.ensures ∙ w.if-is_nil.false
      | else-size-gt0-via-else-size-gt0 w ↦ absurd (omega (arith, w.if-size-gt0.false, h))
    ])
    c.if-view-eq0.true)

pub returns-then-not-is_nil_at : goal.returns-then-not-is_nil_at
returns-then-not-is_nil_at c =
    λ S. sym (length-largest _
    (λ h. elim c.else-size-gt0.branch [
      | else-size-gt0-via-then-size-gt0+else-is_nil w ↦ ap is_nil (sym w.value_at.ensures) ∙ sym w.is_nil.ensures ∙ w.if-is_nil.false
      | else-size-gt0-via-else-size-gt0 w ↦ absurd (omega (arith, w.if-size-gt0.false, h))
    ])
    c.if-view-eq0.false
    c.double-max.result
    ((let u = c.in_use.ensures in rw (u.words, u.count) at c.double-max.ensures.right) (right-index _ S))
    c.if-max-eq-LARGEST.true
    (sym (c.is_nil_at.ensures S) ∙ c.if-not-is_nil_at.true))

pub returns : goal.returns
returns c =
    λ S. c.halve-2.ensures S
    ∙ sym (length-past _
    (λ h. elim c.else-size-gt0.branch [
      | else-size-gt0-via-then-size-gt0+else-is_nil w ↦ ap is_nil (sym w.value_at.ensures) ∙ sym w.is_nil.ensures ∙ w.if-is_nil.false
      | else-size-gt0-via-else-size-gt0 w ↦ absurd (omega (arith, w.if-size-gt0.false, h))
    ])
    c.if-view-eq0.false
    c.double-max.result
    ((let u = c.in_use.ensures in rw (u.words, u.count) at c.double-max.ensures.right) (right-index _ S))
    (λ l. elim c.else-max-eq-LARGEST.branch [
      | else-max-eq-LARGEST-via-then-max-eq-LARGEST+else-not-is_nil_at w ↦ sym (w.is_nil_at.ensures S) ∙ w.if-not-is_nil_at.false
      | else-max-eq-LARGEST-via-else-max-eq-LARGEST w ↦ absurd (w.if-max-eq-LARGEST.false l)
    ]))
