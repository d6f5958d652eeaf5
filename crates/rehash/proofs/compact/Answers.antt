-- `rehash::compact` meets its contract. Assumes nothing.
use Rattle.std.proofs.Common.{arith}
use Rattle.rehash.proofs.Turns.{compact-start, compact-stays, compact-goes}
use Rattle.rehash.proofs.compact.Goals as goal
use Rattle.rehash.proofs.compact.Goals.{then-stays, else-stays}

pub loop-i-init : goal.loop-i-init
loop-i-init c =
    compact-start c.requires.3

pub loop-i-preserved : goal.loop-i-preserved
loop-i-preserved c =
    let so_far = c.loop-i.invariant in
    elim c.if-stays.branch [
      | then-stays w ↦ rw (w.array-is, w.entries-is, w.n-is) (compact-stays so_far (omega arith) (cc) w.put_entry.new.words (cc))
      | else-stays w ↦ rw (w.array-is, w.entries-is, w.n-is) (compact-goes so_far (cc) w.send.new.array (cc) w.send.auto.array)
    ]
