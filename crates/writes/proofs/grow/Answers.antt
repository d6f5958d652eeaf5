-- `writes::grow` meets its contract: into the array, refused, or among the entries. Assumes nothing.
use mathlib.Core.Path.{refl, sym, ◌∙◌}
use native.Mathlib.Omega.{arith}
use Rattle.store.specs.Store.{slices, store_of}
use Rattle.writes.proofs.Outcomes.{size_fits_lem, into-array, no_room_lem, into-entries}
use Rattle.writes.proofs.grow.Goals as goal

pub grow_array-after-requires : goal.grow_array-after-requires
grow_array-after-requires c =
    let a = c.args in
    let s = store_of a.array.now a.entries.now a.index.now a.sizes in
    let fit = size_fits_lem s a.key c.array_size-size.result (c.array_size-size.ensures a.index.now) c.requires in
    (c.requires, fit.0, fit.1, c.survey-staying.ensures.inside, c.survey-staying.ensures.before, sym c.is_within.ensures ∙ c.if-is_within.true)

pub returns-then-is_within : goal.returns-then-is_within
returns-then-is_within c =
    let a = c.args in
    let after = c.grow_array-after.new in
    into-array (store_of a.array.now a.entries.now a.index.now a.sizes) a.key a.v
    c.array_size-size.result (c.array_size-size.ensures a.index.now) (sym c.is_within.ensures ∙ c.if-is_within.true)
    _ refl
    (slices after.array after.entries after.index) c.grow_array-after.result c.grow_array-after.ensures

pub returns-then-entries-staying : goal.returns-then-entries-staying
returns-then-entries-staying c =
    let a = c.args in
    no_room_lem (store_of a.array.now a.entries.now a.index.now a.sizes) a.key a.v
    c.array_size-size.result (c.array_size-size.ensures a.index.now) (sym c.is_within.ensures ∙ c.if-is_within.false)
    (omega arith)

pub grow_entries-after-requires : goal.grow_entries-after-requires
grow_entries-after-requires c =
    let a = c.args in
    let s = store_of a.array.now a.entries.now a.index.now a.sizes in
    let fit = size_fits_lem s a.key c.array_size-size.result (c.array_size-size.ensures a.index.now) c.requires in
    (c.requires, fit.0, fit.1, c.survey-staying.ensures.inside, c.survey-staying.ensures.before, omega arith)

pub returns : goal.returns
returns c =
    let a = c.args in
    let after = c.grow_entries-after.new in
    into-entries (store_of a.array.now a.entries.now a.index.now a.sizes) a.key a.v
    c.array_size-size.result (c.array_size-size.ensures a.index.now) (sym c.is_within.ensures ∙ c.if-is_within.false)
    (omega arith) _ refl
    (slices after.array after.entries after.index) c.grow_entries-after.result c.grow_entries-after.ensures
