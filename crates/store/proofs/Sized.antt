-- The pairs of a sound store are of 64-bit words, and so is the pair that `next` finds. Assumes nothing.
use mathlib.Core.Path.{◌≡◌}
use Prim.Native.Nat.{◌+◌, ◌*◌, ◌^◌, ◌<◌}
use native.Mathlib.Omega.{arith}
use Rattle.value.specs.declared.Words.{Words}
use Rattle.lent.specs.Lent.{value_at}
use Rattle.model.specs.Entries.{Entry, found, Each}
use Rattle.model.specs.Table.{array_pairs, pairs, next_of}
use Rattle.model.proofs.Entries.{each_append, each-tabulate}
use Rattle.model.proofs.Places.{array-tabulate}
use Rattle.model.proofs.Kept.{next-each}
use Rattle.store.specs.Store.{Store}
use Rattle.store.specs.Written.{Sound, pair_at, entry_at, table_of}
use Rattle.store.proofs.Sound.{sound-shaped}

abbrev Sized : Entry → Type 0
Sized e = (e.key.payload < 2 ^ 64) × (e.value.payload < 2 ^ 64)

module _ {s : Store} (S : Sound s) where
  pairs-sized : Each Sized (pairs (table_of s))
  unfolding pairs table_of
  pairs-sized =
      let h = sound-shaped s S in
      each_append Sized (array_pairs 0 (table_of s).array) (table_of s).entries
      (rw (array-tabulate s.sizes.size (value_at s.slices.array) 0)
      (each-tabulate Sized s.sizes.size (pair_at s.slices.array) 0 (λ i a b. (omega (arith, h.size_fits, h.lengths.array_most), S.array_words (2 * i + 1)))))
      (each-tabulate Sized s.sizes.count (entry_at s.slices.entries) 0 (λ i a b. (S.entry_words (2 * (2 * i) + 1), S.entry_words (2 * (2 * i + 1) + 1))))

  pub next-sized : (key k v : Words) → next_of (table_of s) key ≡ found k v → (k.payload < 2 ^ 64) × (v.payload < 2 ^ 64)
  next-sized key k v = next-each Sized (table_of s) key k v pairs-sized
