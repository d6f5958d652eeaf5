-- `growth::best_size` meets its contract: the size is the best by the classes before this one. Assumes nothing.
use Rattle.std.proofs.Common.{◌≡◌, cond, ◌&&◌, ◌+◌, ◌/◌, ◌^◌, ◌<◌, get_or, arith, leb, ltb}
use Rattle.std.proofs.lemmas.Bool.Decides.{nat_tests}
use Rattle.std.proofs.lemmas.Nat.{pow_below}
use Rattle.store.specs.Limits.{class_counts}
use Rattle.growth.proofs.Best.{sized-none, sized-turn}
use Rattle.growth.proofs.best_size.Goals as goal
use Rattle.growth.proofs.best_size.Goals.{then-power-room+then-power-total, else-power-room, else-power-room-via-then-power-room+else-power-total, else-power-room-via-else-power-room}

pub loop-class-init : goal.loop-class-init
loop-class-init c = (omega arith, λ l h. sized-none l c.args.room)

pub loop-class-preserved : goal.loop-class-preserved
loop-class-preserved c =
    let class = c.loop-class.class in
    let n = get_or c.args.counts class 0 in
    let room = c.args.room in
    let in_counts : class < class_counts = omega arith in
    let fits = pow_below class 64 (omega arith) in
    let kept : c.if-power-room.size ≡ cond (leb (2 ^ class) room && ltb (2 ^ class / 2) (c.loop-class.total + n)) (2 ^ class) c.loop-class.size =
    grind (arith, nat_tests, fits) in
    (omega (arith, c.requires.each class), λ l h. rw kept (sized-turn n (h class in_counts) (c.loop-class.invariant.1 l h)))
