-- `records::record_size` meets its contract. Assumes nothing.
use native.Mathlib.Omega.{arith}
use borrow.Author.Rules.{rules}
use Rattle.records.proofs.Numbers.{number-part}
use Rattle.records.proofs.record_size.Goals as goal

pub overflow_add-result : goal.overflow_add-result
overflow_add-result c =
    let bs = c.args.input.now in
    omega (arith, number-part 2 0 bs (search rules), c.number.ensures)
