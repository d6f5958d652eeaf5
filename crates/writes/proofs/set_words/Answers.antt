-- `writes::set_words` meets its contract. Assumes nothing.
use mathlib.Core.Path.{sym, ◌∙◌}
use native.Mathlib.Omega.{arith}
use Rattle.std.proofs.lemmas.Result.{err_from_is_err_and}
use Rattle.lent.proofs.Says.{said-yes, said-no}
use Rattle.store.specs.Store.{slices, store_of}
use Rattle.writes.proofs.Promises.{wrong-shape, set-unvalued, set-refused, set-keyed}
use Rattle.writes.proofs.set_words.Goals as goal

pub returns-then-not-right_shape : goal.returns-then-not-right_shape
returns-then-not-right_shape c =
    let a = c.args in
    wrong-shape (store_of a.array.now a.entries.now a.index.now a.sizes) (said-no c.right_shape.ensures c.if-not-right_shape.true)

pub returns-then-not-are_values : goal.returns-then-not-are_values
returns-then-not-are_values c =
    let a = c.args in
    set-unvalued (store_of a.array.now a.entries.now a.index.now a.sizes) (said-yes c.right_shape.ensures c.if-not-right_shape.false) a.key a.v
    (sym c.are_values.ensures ∙ c.if-not-are_values.true)

pub returns-in_err-k : goal.returns-in_err-k
returns-in_err-k c =
    let a = c.args in
    let p = err_from_is_err_and c.from_residual.result c.from_residual.ensures.1 in
    rw (p.1, p.2) (set-refused (store_of a.array.now a.entries.now a.index.now a.sizes) (said-yes c.right_shape.ensures c.if-not-right_shape.false) a.key a.v
    (sym c.are_values.ensures ∙ c.if-not-are_values.false) c.in_err-k.field-0.0 (sym c.in_err-k.ensures))

pub returns : goal.returns
returns c =
    let a = c.args in
    let after = c.set_key.new in
    set-keyed (store_of a.array.now a.entries.now a.index.now a.sizes) (said-yes c.right_shape.ensures c.if-not-right_shape.false) a.key a.v
    (sym c.are_values.ensures ∙ c.if-not-are_values.false) c.in_ok-k.k (sym c.in_ok-k.ensures)
    (slices after.array after.entries after.index) c.set_key.result c.set_key.ensures
    (λ i. omega (arith, c.type_inv.array i)) (λ i. omega (arith, c.type_inv.entries i))
