-- `growth::count_array` meets its contract: the values at places below a class are counted. Assumes nothing.
use Rattle.std.proofs.Common.{◌≡◌, ◌+◌, arith}
use Rattle.std.proofs.lemmas.List.{set-get_or}
use Rattle.std.proofs.lemmas.Nat.{one_shl}
use Rattle.store.specs.Limits.{class_counts}
use Rattle.store.specs.Written.{pair_at}
use Rattle.growth.proofs.Steps.{counted-most}
use Rattle.growth.proofs.Turns.{firsts-le}
use Rattle.growth.proofs.Ranges.{places_below, half, range-turn, range-all}
use Rattle.growth.proofs.count_array.Goals as goal

pub overflow_add-count : goal.overflow_add-count
overflow_add-count c =
    let from = c.loop-class.from in
    let most = counted-most 1 from c.requires.2 c.loop-class.invariant.1 (firsts-le (pair_at c.args.array.now) from) in
    omega (arith, most.each c.loop-class.class)

pub loop-class-preserved : goal.loop-class-preserved
loop-class-preserved c =
    let a = c.args in
    let class = c.loop-class.class in
    let to : c.min-to.result ≡ places_below (class + 1) a.size = omega (arith, half class, one_shl class 64 (omega arith), c.min-to.ensures) in (
      to,
      range-turn a.array.now class a.size c.loop-class.from _ c.count_values.result (omega arith) (omega arith) c.loop-class.invariant.0 to
          c.loop-class.invariant.1 c.count_values.ensures.0,
    )

pub returns-then-from-size : goal.returns-then-from-size
returns-then-from-size c = rw set-get_or (range-all c.args.array.now c.if-from-size.true c.loop-class.invariant.1)

pub returns-after-loop-class : goal.returns-after-loop-class
returns-after-loop-class c =
    let last : c.loop-class.class ≡ class_counts = omega arith in
    range-all c.args.array.now (omega (arith, rw last at c.loop-class.invariant.0)) c.loop-class.invariant.1
