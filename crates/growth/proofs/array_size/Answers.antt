-- `growth::array_size` meets its contract: key, array and entries are counted one after the other. Assumes nothing.
use Rattle.std.proofs.Common.{arith}
use Rattle.growth.proofs.Candidates.{key-most, array-most, entries-most, grown-size}
use Rattle.growth.proofs.array_size.Goals as goal

pub count_array-within-requires : goal.count_array-within-requires
count_array-within-requires c =
    let a = c.args in
    (omega arith, omega arith, key-most a.array.now a.entries.now a.sizes a.key c.count_key-new.ensures)

pub count_entries-all-requires : goal.count_entries-all-requires
count_entries-all-requires c =
    let a = c.args in
    (omega arith, array-most a.array.now a.entries.now a.sizes a.key c.count_key-new.ensures c.count_array-within.ensures c.requires.2)

pub best_size-requires : goal.best_size-requires
best_size-requires c =
    let a = c.args in
    entries-most a.array.now a.entries.now a.sizes a.key c.count_key-new.ensures c.count_array-within.ensures c.count_entries-all.ensures c.requires.2 c.requires.3

pub returns : goal.returns
returns c =
    λ iw.
    let a = c.args in
    grown-size a.array.now a.entries.now a.sizes a.key c.count_key-new.ensures c.count_array-within.ensures c.count_entries-all.ensures
    iw c.best_size.result c.best_size.ensures (omega arith)
