-- The roads of a reserve on a sound store: enough room, no room, and cleared entries dropped. Each leaves the table's outcome, written out.
-- Assumes nothing.
use mathlib.Core.Path.{◌≡◌, refl, sym, ap, ◌∙◌}
use mathlib.Core.Bool.{and-true}
use mathlib.Core.List.{List, [], ◌∷◌}
use Prim.Native.Nat.{ℕ, suc, ◌+◌, ◌-◌, ◌≤◌, ◌<◌, max}
use native.Mathlib.Omega.{arith}
use lib.ListN.{length}
use borrow.Author.Tests.{le-leb, lt-leb, lt-ltb, le-ltb}
use Rattle.value.specs.declared.Words.{Words}
use Rattle.value.specs.Same.{nil}
use Rattle.value.specs.Refusals.{no_room}
use Rattle.key.specs.Canonical.{integer}
use Rattle.model.specs.Entries.{Entry, Each, keep, live}
use Rattle.model.specs.Table.{Room, Table, lookup}
use Rattle.model.specs.Growth.{tabulate, stays, rehashed}
use Rattle.model.specs.Calls.{reserve_of}
use Rattle.model.specs.WellFormed.{Outside, WellFormed}
use Rattle.model.proofs.Entries.{length-keep, length-tabulate, tabulate-is}
use Rattle.model.proofs.Map.{numbered}
use Rattle.model.proofs.Border.{in_array}
use Rattle.store.specs.declared.Record.{Record}
use Rattle.store.specs.Store.{Slices, Store, store, Lengths, lengths_of, room_for}
use Rattle.store.specs.Written.{written, Sound, entry_at, table_of, entries_in}
use Rattle.store.proofs.Views.{length-array, length-entries}
use Rattle.store.proofs.Sound.{sound-formed, sound-written}
use Rattle.rehash.specs.Rehash.{staying_in}
use Rattle.writes.specs.Writes.{Left, left, written_out}

-- where no entry has an index below A, those that stay are those with a value
staying-live : (A : ℕ) (l : List Entry) → Each (Outside A) l → keep (stays A) l ≡ keep live l
unfolding stays
staying-live A [] o = refl
staying-live A (s ∷ ss) o = rw (o.0, and-true (live s), staying-live A ss o.1)

-- cleared entries dropped, and another allowance
abbrev purged : Table → ℕ → Table
purged t M = record { array = t.array; entries = keep live t.entries; allowance = M }

-- an array that does not grow stays as it is
still : {room : Room} (t : Table) → WellFormed room t → rehashed t (length t.array) ≡ purged t t.allowance
unfolding rehashed
still t w =
    let A = length t.array in
    let value : ℕ → Words = λ i. lookup t (integer (suc i)) in
    let p : max A A ≡ A = omega arith in
    let a = ap (λ (n : ℕ). tabulate n value 0) p ∙ tabulate-is t.array value nil (λ i h. in_array t i h (omega (arith, numbered w))) in
    let e = ap (λ (n : ℕ). keep (stays n) t.entries) p ∙ staying-live A t.entries w.outside in
    λ j. record { array = a j; entries = e j; allowance = t.allowance }

-- no more entries stay than there are
pub few : (ws : List ℕ) (e A : ℕ) → length (staying_in ws e A) ≤ e
few ws e A = omega (arith, length-keep (stays A) (entries_in ws e), length-tabulate e (entry_at ws) 0)

module _ (s : Store) (S : Sound s) (n : ℕ) where
  abbrev t : Table
  t = table_of s

  abbrev l : Lengths
  l = lengths_of s.slices

  abbrev Leaves : Left → Type 0
  Leaves x = x ≡ written_out l (reserve_of (room_for s) t n)

  abbrev L : ℕ
  L = length (keep live t.entries)

  staying-is : length (staying_in s.slices.entries s.sizes.count s.sizes.size) ≡ L
  unfolding table_of
  staying-is = ap {B = ℕ} (λ (es : List Entry). length es) (staying-live s.sizes.size t.entries (rw (length-array s) at (sound-formed s S).outside))

  spare : t.allowance - length t.entries ≡ s.sizes.allowance - s.sizes.count
  unfolding table_of
  spare = ap (λ (E : ℕ). s.sizes.allowance - E) (length-entries s)

  pub enough : n ≤ s.sizes.allowance - s.sizes.count → Leaves (left 0 nil s)
  unfolding reserve_of
  enough h = rw (le-leb n (t.allowance - length t.entries) (omega (arith, spare))) (ap (left 0 nil) (sound-written s S))

  pub too_many : s.sizes.allowance - s.sizes.count < n
      → (room_for s).entry_room < length (staying_in s.slices.entries s.sizes.count s.sizes.size) + n → Leaves (left no_room nil s)
  unfolding reserve_of
  too_many h g =
      rw (lt-leb n (t.allowance - length t.entries) (omega (arith, spare)), lt-ltb (room_for s).entry_room (L + n) (omega (arith, staying-is)))
      (ap (left no_room nil) (sound-written s S))

  pub dropped : s.sizes.allowance - s.sizes.count < n
      → length (staying_in s.slices.entries s.sizes.count s.sizes.size) + n ≤ (room_for s).entry_room
      → (after : Slices) (r : Record) → store after r ≡ written l (rehashed t s.sizes.size) → (M : ℕ) → M ≡ max s.sizes.allowance (r.count + n)
      → Leaves (left 0 nil (store after (record { size = r.size; allowance = M; count = r.count })))
  unfolding reserve_of written table_of
  dropped h g after r p M q =
      let R = rehashed t s.sizes.size in
      let kept : R ≡ purged t t.allowance = ap (rehashed t) (sym (length-array s)) ∙ still t (sound-formed s S) in
      let count : r.count ≡ L = ap (λ (x : Store). x.sizes.count) p ∙ ap (λ (u : Table). length u.entries) kept in
      let allowance : M ≡ max s.sizes.allowance (L + n) = q ∙ ap (λ (c : ℕ). max s.sizes.allowance (c + n)) count in
      rw (lt-leb n (t.allowance - length t.entries) (omega (arith, spare)), le-ltb (room_for s).entry_room (L + n) (omega (arith, staying-is)))
      (ap (left 0 nil)
      (ap (λ (x : Store). store x.slices (record { size = x.sizes.size; allowance = M; count = x.sizes.count })) p
      ∙ (λ j. store (written l (kept j)).slices (record { size = length (kept j).array; allowance = allowance j; count = length (kept j).entries }))))
