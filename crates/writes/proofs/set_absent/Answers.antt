-- `writes::set_absent` meets its contract: nothing, one entry more, or growth. Assumes nothing.
use mathlib.Core.Path.{refl, sym, ◌∙◌}
use Rattle.store.specs.Store.{slices, store_of}
use Rattle.writes.proofs.Keyed.{nothing-done, append-done, grow-done}
use Rattle.writes.proofs.set_absent.Goals as goal

pub returns-then-is_nil : goal.returns-then-is_nil
returns-then-is_nil c =
    let a = c.args in
    nothing-done (store_of a.array.now a.entries.now a.index.now a.sizes) a.key a.v a.place
    (sym c.is_nil.ensures ∙ c.if-is_nil.true) _ refl

pub returns-then-sizes : goal.returns-then-sizes
returns-then-sizes c =
    let a = c.args in
    let after = c.append.new in
    let p = c.append.ensures in
    append-done (store_of a.array.now a.entries.now a.index.now a.sizes) a.key a.v a.place
    (sym c.is_nil.ensures ∙ c.if-is_nil.false) c.if-sizes.true _ refl
    after.entries after.index c.append.result p.entries p.index p.sizes

pub returns : goal.returns
returns c =
    let a = c.args in
    let after = c.grow.new in
    grow-done (store_of a.array.now a.entries.now a.index.now a.sizes) a.key a.v a.place
    (sym c.is_nil.ensures ∙ c.if-is_nil.false) c.if-sizes.false
    (slices after.array after.entries after.index) c.grow.result c.grow.ensures
