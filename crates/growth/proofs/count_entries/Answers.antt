-- `growth::count_entries` meets its contract: the entries before entry i are counted. Assumes nothing.
use Rattle.std.proofs.Common.{◌+◌, arith}
use Rattle.key.specs.Canonical.{array_index}
use Rattle.store.specs.Limits.{array_limit}
use Rattle.store.specs.Written.{entry_at}
use Rattle.growth.proofs.Steps.{key-counted, key_left, counted-most}
use Rattle.growth.proofs.Turns.{firsts-le, turn-nil, turn-live}
use Rattle.growth.proofs.count_entries.Goals as goal
use Rattle.growth.proofs.count_entries.Goals.{then-not-is_nil+in-Some, then-not-is_nil+in_default, else-not-is_nil}

pub overflow_add-counts : goal.overflow_add-counts
overflow_add-counts c =
    let i = c.loop-i.i in
    let most = counted-most (array_limit + 1) i c.requires.1 c.loop-i.invariant (firsts-le (entry_at c.args.entries.now.words.now) i) in
    omega (arith, most.each c.in-Some.class)

pub loop-i-preserved : goal.loop-i-preserved
loop-i-preserved c =
    let f = entry_at c.args.entries.now.words.now in
    let i = c.loop-i.i in
    let s = c.loop-i.invariant in
    elim c.if-not-is_nil.branch [
      | then-not-is_nil+in-Some w ↦ rw w.counts-is (turn-live f i s (cc)
          (rw w.key.ensures at (key-counted (array_index w.key.result) s.long w.in-Some.ensures)))
      | then-not-is_nil+in_default w ↦ rw w.counts-is (turn-live f i s (cc)
          (rw w.key.ensures at (key_left (array_index w.key.result) s.long w.in_default.ensures)))
      | else-not-is_nil w ↦ rw w.counts-is (turn-nil f i s (cc))
    ]
