-- `key::whole_of_fields` meets its contract. Assumes nothing.
use mathlib.Core.Path.{sym, ap}
use Prim.Native.Nat.{ℕ, ◌+◌, ◌*◌, ◌^◌}
use Rattle.key.proofs.Ratios.{zero_field, subnormal, fraction, large, middle-is, middle-not, upper_is, upper-large, upper_fits}
use Rattle.key.proofs.whole_of_fields.Goals as goal
use Rattle.key.proofs.whole_of_fields.Goals.{else-exponent-eq0-via-then-exponent-eq0+else-digits-eq0, else-exponent-eq0-via-else-exponent-eq0}

pub returns-then-digits-eq0 : goal.returns-then-digits-eq0
returns-then-digits-eq0 c = rw (c.if-exponent-eq0.true, c.if-digits-eq0.true) (sym (zero_field c.args.negative))

pub returns-then-exponent-lt1023 : goal.returns-then-exponent-lt1023
returns-then-exponent-lt1023 c = elim c.else-exponent-eq0.branch [
  | else-exponent-eq0-via-then-exponent-eq0+else-digits-eq0 w ↦ rw w.if-exponent-eq0.true (sym (subnormal c.args.negative c.args.digits w.if-digits-eq0.false c.requires))
  | else-exponent-eq0-via-else-exponent-eq0 w ↦ sym (fraction c.args.negative c.args.exponent c.args.digits w.if-exponent-eq0.false c.if-exponent-lt1023.true c.requires)
]

pub returns-then-exponent-gt1086 : goal.returns-then-exponent-gt1086
returns-then-exponent-gt1086 c = sym (large c.args.negative c.args.exponent c.args.digits c.if-exponent-gt1086.true)

pub returns-then-all-unit-eq0 : goal.returns-then-all-unit-eq0
returns-then-all-unit-eq0 c = sym (middle-is c.args.negative c.args.exponent c.args.digits c.power-unit.result c.if-exponent-lt1023.false c.if-exponent-lt1075.true c.requires c.power-unit.ensures c.if-all-unit-eq0.true)

pub returns-then-exponent-lt1075 : goal.returns-then-exponent-lt1075
returns-then-exponent-lt1075 c = sym (middle-not c.args.negative c.args.exponent c.args.digits c.power-unit.result c.if-exponent-lt1023.false c.if-exponent-lt1075.true c.power-unit.ensures c.if-all-unit-eq0.false)

pub overflow_mul-n : goal.overflow_mul-n
overflow_mul-n c = record { fits = upper_fits c.args.exponent c.args.digits c.power.result c.requires c.if-exponent-lt1075.false c.if-exponent-gt1086.false c.power.ensures }

pub returns-then-n-gt9223372036854775808 : goal.returns-then-n-gt9223372036854775808
returns-then-n-gt9223372036854775808 c = sym (upper-large c.args.negative c.args.exponent c.args.digits _ c.if-exponent-lt1075.false c.if-exponent-gt1086.false (ap (λ (y : ℕ). (2 ^ 52 + c.args.digits) * y) c.power.ensures) c.if-n-gt9223372036854775808.true)

pub returns : goal.returns
returns c = sym (upper_is c.args.negative c.args.exponent c.args.digits _ c.if-exponent-lt1075.false c.if-exponent-gt1086.false (ap (λ (y : ℕ). (2 ^ 52 + c.args.digits) * y) c.power.ensures) c.if-n-gt9223372036854775808.false)
