-- A key in a store's words: what the table has at it, by its place in the array or by what a search of the index answers. Assumes nothing.
use mathlib.Core.Path.{◌≡◌, sym, ap, ◌∙◌}
use mathlib.Core.Bool.{true, false}
use mathlib.Core.List.{List, ◌++◌}
use Prim.Native.Nat.{ℕ, suc, ◌+◌, ◌-◌, ◌<◌}
use native.Mathlib.Omega.{arith}
use lib.ListN.{length, get_or, drop}
use Rattle.value.specs.declared.Words.{Words}
use Rattle.value.specs.Same.{nil}
use Rattle.key.specs.Canonical.{integer}
use Rattle.lent.specs.Lent.{value_at}
use Rattle.index.specs.declared.Found.{Found}
use Rattle.index.specs.declared.Found.TheVariants.{At, Absent, Full}
use Rattle.index.specs.Index.{Right}
use Rattle.index.specs.Search.{Stands, Finds}
use Rattle.model.specs.Entries.{Entry, NextValue, not_found, first, from}
use Rattle.model.specs.Table.{offset, within, place_of, array_pairs, pairs, lookup}
use Rattle.model.specs.Growth.{tabulate}
use Rattle.model.proofs.Entries.{length-tabulate, tabulate-at}
use Rattle.model.proofs.Places.{from_place, from-nowhere, drop-tabulate, array-tabulate}
use Rattle.model.proofs.Array.{Inside, inside, place-within, has-array-within, lookup-within, lookup-outside}
use Rattle.model.proofs.Next.{from-array, from-append-not}
use Rattle.store.specs.Store.{Store}
use Rattle.store.specs.Written.{Sound, pair_at, entry_at, table_of, entries_in}
use Rattle.store.proofs.Views.{distinct-read}
use Rattle.store.proofs.Sound.{right-index, sound-shaped}
use Rattle.store.proofs.Keys.{value_by, inside-by, key-by, has-by, find-by}

-- ---- the first pair after an entry, by what a search answers
abbrev pub after_by : List ℕ → ℕ → Found → NextValue
after_by ws e (At i) = first (tabulate (e - (i + 1)) (entry_at ws) (i + 1))
after_by ws e (Absent p) = not_found
after_by ws e Full = not_found

from-by : (ws : List ℕ) (e : ℕ) (l : List ℕ) (k : Words) → Right ws e l → (r : Found) → Finds ws e l k r
    → from (entries_in ws e) k ≡ after_by ws e r
from-by ws e l k R (At i) a =
    let p : e - suc i ≡ e - (i + 1) = omega arith in
    let q : 0 + suc i ≡ i + 1 = omega arith in
    from_place (entries_in ws e) i k (distinct-read ws e R.distinct) (inside-by ws e l k i a) (key-by ws e l k i a)
    ∙ ap first (drop-tabulate (suc i) e (entry_at ws) 0)
    ∙ (λ j. first (tabulate (p j) (entry_at ws) (q j)))
from-by ws e l k R (Absent p) a = from-nowhere (entries_in ws e) k (has-by ws e l k (Absent p) a)
from-by ws e l k R Full a = absurd a

-- on any words, an entry that is answered is there
pub found_in : (e n i : ℕ) (r : Found) → r ≡ At i → Stands e n r → i < e
found_in e n i r p h = rw p at h

-- ---- the place i of a key of the array
place_is : (A : ℕ) (k : Words) (i : ℕ) (r : Inside A k) → i ≡ place_of k → i ≡ r.i
place_is A k i r p = p ∙ ap offset r.index

pub place_in : (A : ℕ) (k : Words) (i : ℕ) → i ≡ place_of k → within A k ≡ true → i < A
place_in A k i p e = omega (arith, p, place-within A k e)

-- ---- a key of a store
module _ (s : Store) (k : Words) where
  abbrev A : ℕ
  A = s.sizes.size

  abbrev E : ℕ
  E = s.sizes.count

  abbrev aw : List ℕ
  aw = s.slices.array

  abbrev ew : List ℕ
  ew = s.slices.entries

  abbrev iw : List ℕ
  iw = s.slices.index

  abbrev array : List Words
  array = tabulate A (value_at aw) 0

  abbrev entries : List Entry
  entries = entries_in ew E

  len_a : length array ≡ A
  len_a = length-tabulate A (value_at aw) 0

  -- in the array, at place i
  pub lookup-in : (i : ℕ) → i ≡ place_of k → within A k ≡ true → lookup (table_of s) k ≡ value_at aw i
  unfolding table_of
  lookup-in i p e =
      lookup-within (table_of s) k (ap (λ (n : ℕ). within n k) len_a ∙ e)
      ∙ ap (λ (j : ℕ). get_or array j nil) (sym p)
      ∙ tabulate-at A (value_at aw) nil i (place_in A k i p e)

  -- outside it, by what a search says on a right index: r is its answer, and x is that answer taken apart
  pub lookup-by : within A k ≡ false → Sound s → (r x : Found) → (Right ew E iw → Finds ew E iw k r) → r ≡ x → lookup (table_of s) k ≡ value_by ew x
  unfolding table_of
  lookup-by e S r x a p =
      let R = right-index s S in
      lookup-outside (table_of s) k (ap (λ (n : ℕ). within n k) len_a ∙ e) ∙ find-by ew E iw k R.distinct r (a R) ∙ ap (value_by ew) p

  pub next-in : (i : ℕ) → i ≡ place_of k → within A k ≡ true → from (pairs (table_of s)) k ≡ first (tabulate (A - (i + 1)) (pair_at aw) (i + 1) ++ entries)
  unfolding table_of pairs
  next-in i p e =
      let r = inside A k e in
      let q : i ≡ r.i = place_is A k i r p in
      let n : A - suc r.i ≡ A - (i + 1) = omega arith in
      let m : 0 + suc r.i ≡ i + 1 = omega arith in
      from-array array 0 r.i k entries (r.is ∙ ap integer (omega arith)) (omega (arith, len_a, r.i<))
      ∙ ap (λ (l : List Entry). first (drop (suc r.i) l ++ entries)) (array-tabulate A (value_at aw) 0)
      ∙ ap (λ (l : List Entry). first (l ++ entries)) (drop-tabulate (suc r.i) A (pair_at aw) 0)
      ∙ (λ j. first (tabulate (n j) (pair_at aw) (m j) ++ entries))

  pub next-by : within A k ≡ false → Sound s → (r x : Found) → (Right ew E iw → Finds ew E iw k r) → r ≡ x → from (pairs (table_of s)) k ≡ after_by ew E x
  unfolding table_of pairs
  next-by e S r x a p =
      let R = right-index s S in
      let h = sound-shaped s S in
      from-append-not (array_pairs 0 array) entries k
      (has-array-within array k (omega (arith, len_a, h.size_fits, h.lengths.array_most)) ∙ ap (λ (n : ℕ). within n k) len_a ∙ e)
      ∙ from-by ew E iw k R r (a R)
      ∙ ap (after_by ew E) p

-- a walk from the start
pub next_start : (s : Store)
    → first (pairs (table_of s)) ≡ first (tabulate (s.sizes.size - 0) (pair_at s.slices.array) 0 ++ entries_in s.slices.entries s.sizes.count)
unfolding table_of pairs
next_start s =
    let p : s.sizes.size ≡ s.sizes.size - 0 = omega arith in
    ap (λ (l : List Entry). first (l ++ entries_in s.slices.entries s.sizes.count))
    (array-tabulate s.sizes.size (value_at s.slices.array) 0 ∙ ap (λ (n : ℕ). tabulate n (pair_at s.slices.array) 0) p)
