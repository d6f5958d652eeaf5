-- `writes::grow_entries` meets its contract. Assumes nothing.
use mathlib.Core.Path.{ap, ◌∙◌}
use Prim.Native.Nat.{ℕ, ◌/◌}
use native.Mathlib.Omega.{arith}
use Rattle.model.specs.Growth.{grown_allowance}
use Rattle.store.specs.Store.{slices, store_of}
use Rattle.writes.proofs.Growing.{entry-grown}
use Rattle.writes.proofs.grow_entries.Goals as goal

pub returns : goal.returns
returns c =
    let a = c.args in
    let r = c.rehash-grown.result in
    let after = c.rehash-grown.new in
    entry-grown (store_of a.array.now a.entries.now a.index.now a.sizes) a.size a.first a.key a.v
    r (slices after.array after.entries after.index) c.rehash-grown.ensures
    (omega arith)
    c.put_entry.new.words c.place_from.new.index c.put_entry.ensures c.place_from.ensures
    c.rehash-grown.auto.index (c.place_from.auto.index ∙ c.rehash-grown.auto.index)
    c.grown_allowance.result
    (c.grown_allowance.ensures
    ∙ ap (λ (n : ℕ). grown_allowance (n / 4) r.count r.allowance) (c.put_entry.auto.words ∙ c.rehash-grown.auto.entries))
