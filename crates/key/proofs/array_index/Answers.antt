-- `key::array_index` meets its contract. Assumes nothing.
use Rattle.std.proofs.Common.{◌≡◌, ℕ, ◌≤◌, ◌<◌, ◌^◌, true, false, arith}
use borrow.Author.Tests.{eq-eqb, ne_eqb, lt-ltb, le-ltb, le-leb, lt-leb}
use lib.Dec.{leb}
use Rattle.key.specs.Canonical.{largest, array_index}
use Rattle.key.proofs.array_index.Goals as goal
use Rattle.key.proofs.array_index.Goals.{else-key-gt0-via-then-key-gt0+else-key-lt9223372036854775808, else-key-gt0-via-else-key-gt0}

-- below 2 ^ 63 is at most the largest integer
within : (n : ℕ) → n < 2 ^ 63 → leb n largest ≡ true
within n h = le-leb n largest (omega arith)

beyond : (n : ℕ) → 2 ^ 63 ≤ n → leb n largest ≡ false
beyond n h = lt-leb n largest (omega arith)

pub returns-then-key-ne2 : goal.returns-then-key-ne2
unfolding array_index
returns-then-key-ne2 c = simp (ne_eqb _ _ c.if-key-ne2.true)

pub returns-then-key-lt9223372036854775808 : goal.returns-then-key-lt9223372036854775808
unfolding array_index
returns-then-key-lt9223372036854775808 c = simp (eq-eqb _ _ c.if-key-ne2.false, lt-ltb _ _ c.if-key-gt0.true, within _ c.if-key-lt9223372036854775808.true)

pub returns : goal.returns
unfolding array_index
returns c = elim c.else-key-gt0.branch [
  | else-key-gt0-via-then-key-gt0+else-key-lt9223372036854775808 w ↦ simp (eq-eqb _ _ c.if-key-ne2.false, lt-ltb _ _ w.if-key-gt0.true, beyond _ w.if-key-lt9223372036854775808.false)
  | else-key-gt0-via-else-key-gt0 w ↦ simp (eq-eqb _ _ c.if-key-ne2.false, le-ltb _ _ w.if-key-gt0.false)
]
