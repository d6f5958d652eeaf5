-- `writes::set_key` meets its contract: into the array, over an entry, or a key that has no place. Assumes nothing.
use mathlib.Core.Path.{sym, ◌∙◌}
use native.Mathlib.Omega.{arith}
use Rattle.model.proofs.Array.{place-within}
use Rattle.store.specs.Store.{slices, store_of}
use Rattle.writes.proofs.Keyed.{array-done, entry_done, absent-done, full-done}
use Rattle.writes.proofs.set_key.Goals as goal

pub put_value-requires : goal.put_value-requires
put_value-requires c =
    let a = c.args in
    let within = sym c.is_within.ensures ∙ c.if-is_within.true in
    omega (arith, place-within a.sizes.size a.key within)

pub returns-then-is_within : goal.returns-then-is_within
returns-then-is_within c =
    let a = c.args in
    array-done (store_of a.array.now a.entries.now a.index.now a.sizes) a.key a.v
    (sym c.is_within.ensures ∙ c.if-is_within.true) c.place_of.result c.place_of.ensures
    c.put_value.result c.put_value.ensures.previous c.put_value.new.words c.put_value.ensures.words

pub returns-in-At : goal.returns-in-At
returns-in-At c =
    let a = c.args in
    entry_done (store_of a.array.now a.entries.now a.index.now a.sizes) a.key a.v c.search.result c.search.ensures.right
    (sym c.is_within.ensures ∙ c.if-is_within.false) c.in-At.i c.in-At.is
    c.put_value-in-At.result c.put_value-in-At.ensures.previous c.put_value-in-At.new.words c.put_value-in-At.ensures.words

pub returns-in-Absent : goal.returns-in-Absent
returns-in-Absent c =
    let a = c.args in
    let after = c.set_absent.new in
    absent-done (store_of a.array.now a.entries.now a.index.now a.sizes) a.key a.v c.search.result c.search.ensures.right
    (sym c.is_within.ensures ∙ c.if-is_within.false) c.in-Absent.place c.in-Absent.is
    (slices after.array after.entries after.index) c.set_absent.result c.set_absent.ensures

pub returns-in-Full : goal.returns-in-Full
returns-in-Full c =
    let a = c.args in
    full-done (store_of a.array.now a.entries.now a.index.now a.sizes) a.key a.v c.search.result c.search.ensures.right
    c.in-Full.is
