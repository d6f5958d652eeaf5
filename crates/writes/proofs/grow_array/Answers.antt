-- `writes::grow_array` meets its contract. Assumes nothing.
use native.Mathlib.Omega.{arith}
use Rattle.model.proofs.Array.{place-within}
use Rattle.store.specs.Store.{slices, store_of}
use Rattle.writes.proofs.Growing.{array-grown}
use Rattle.writes.proofs.grow_array.Goals as goal

pub put_value-requires : goal.put_value-requires
put_value-requires c =
    let a = c.args in
    omega (arith, place-within a.size a.key c.requires.5)

pub returns : goal.returns
returns c =
    let a = c.args in
    let after = c.rehash-grown.new in
    array-grown (store_of a.array.now a.entries.now a.index.now a.sizes) a.size a.first a.key a.v
    c.rehash-grown.result (slices after.array after.entries after.index) c.rehash-grown.ensures
    c.requires.1 c.requires.2 c.requires.5
    c.place_of.result c.place_of.ensures c.put_value.new.words c.put_value.ensures.words
