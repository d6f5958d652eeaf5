-- Growth to an array of size S, from what a rehash leaves: the new pair written in the array, or appended to the entries. Assumes nothing.
use mathlib.Core.Path.{◌≡◌, sym, ap, ◌∙◌}
use mathlib.Core.Bool.{true}
use mathlib.Core.List.{List}
use Prim.Native.Nat.{ℕ, ◌+◌, ◌*◌, ◌/◌, ◌≤◌}
use native.Mathlib.Omega.{arith}
use lib.ListN.{length}
use Rattle.value.specs.declared.Words.{Words}
use Rattle.lent.specs.Lent.{put_value, put_entry}
use Rattle.index.specs.Index.{index_words, Indexes}
use Rattle.model.specs.Table.{Table, within, place_of}
use Rattle.model.specs.Growth.{rehashed, grown_allowance}
use Rattle.model.proofs.Array.{place-within}
use Rattle.model.proofs.Map.{rehashed-length}
use Rattle.store.specs.declared.Record.{Record}
use Rattle.store.specs.Store.{Slices, Store, store, store_of, Lengths, lengths_of, room_for}
use Rattle.store.specs.Written.{written, table_of}
use Rattle.store.proofs.Views.{length-array}
use Rattle.store.proofs.Puts.{array-put, append-indexed, still-indexed}
use Rattle.rehash.specs.Rehash.{Rehashes}
use Rattle.writes.specs.Roads.{ArrayGrown, EntryGrown}

module _ (s : Store) (S first : ℕ) (k v : Words) (r : Record) (after : Slices) (a : Rehashes s S first r (store after r)) where
  abbrev t : Table
  t = rehashed (table_of s) S

  abbrev l : Lengths
  l = lengths_of s.slices

  pub array-grown : s.sizes.size ≤ S → S ≤ l.array / 2 → within S k ≡ true → (i : ℕ) → i ≡ place_of k → (aw : List ℕ) → aw ≡ put_value after.array i v
      → ArrayGrown s S k v (store_of aw after.entries after.index r)
  array-grown more room h i e aw p g =
      let long : length t.array ≡ S = rehashed-length (table_of s) S ∙ omega (arith, length-array s) in
      rw (p, e) (array-put l t (store after r) (a.sound g) k v (omega (arith, place-within S k h)) (omega arith))

  pub entry-grown : 4 * r.count + 4 ≤ l.entries → (ew iw : List ℕ) → ew ≡ put_entry after.entries r.count k v
      → (Indexes ew r.count after.index → Indexes ew (r.count + 1) iw) → length after.index ≡ l.index → length iw ≡ l.index
      → (M : ℕ) → M ≡ grown_allowance (room_for s).entry_room r.count r.allowance
      → EntryGrown s S k v (store_of after.array ew iw (record { size = S; allowance = M; count = r.count + 1 }))
  unfolding written
  entry-grown room ew iw p in-again long_b long_a M q g =
      let is = a.sound g in
      let E : r.count ≡ length t.entries = ap (λ (x : Store). x.sizes.count) is in
      let allowance = q ∙ ap (λ (x : Store). grown_allowance (room_for s).entry_room x.sizes.count x.sizes.allowance) is in
      let entries : ew ≡ put_entry after.entries (length t.entries) k v = p ∙ ap (λ (n : ℕ). put_entry after.entries n k v) E in
      let still = still-indexed l t (store after r) is k v ∙ sym (λ j. index_words (long_b j) (entries j) (E j)) in
      let index = in-again still ∙ (λ j. index_words (long_a j) (entries j) (E j + 1)) in
      (λ j. store_of after.array (entries j) iw (record { size = sym a.size j; allowance = allowance j; count = E j + 1 }))
      ∙ append-indexed l t (store after r) is k v (grown_allowance (room_for s).entry_room (length t.entries) t.allowance) (omega arith) index
