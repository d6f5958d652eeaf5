-- `rehash::rehash` meets its contract. Assumes nothing.
use native.Mathlib.Omega.{arith}
use Rattle.rehash.proofs.Outcome.{rehashes, nothing-goes}
use Rattle.rehash.proofs.rehash.Goals as goal

pub returns-then-first-sizes : goal.returns-then-first-sizes
returns-then-first-sizes c =
    let a = c.args in
    nothing-goes a.array.now a.entries.now a.index.now a.sizes a.size a.first c.requires.1 c.requires.2 (omega arith)
    c.requires.4 c.if-first-sizes.true

pub returns : goal.returns
returns c =
    let a = c.args in
    rehashes a.array.now a.entries.now a.index.now a.sizes a.size a.first c.compact-count.result
    c.requires.1 c.requires.2 (omega arith)
    c.take_out.new.index c.compact-count.new.array c.compact-count.new.entries
    c.clear_entries.new.entries c.place_from.new.index
    c.take_out.ensures c.compact-count.ensures c.clear_entries.ensures c.place_from.ensures
    c.clear_entries.auto.entries c.take_out.auto.index c.place_from.auto.index
    (λ e. absurd (c.if-first-sizes.false e))
