-- One of our tables as a table of the original's: an entry is a cell with its key alive, or with the key that a clear leaves where its value is
-- Nil. A dead key is met by its own object alone, since no two are at one address, so every search and write of the cells is that of the
-- entries. Assumes nothing.
use mathlib.Core.Path.{◌≡◌, refl, sym, ap, ◌∙◌}
use mathlib.Core.Bool.{Bool, true, false, cond, ◌&&◌}
use mathlib.Core.List.{List, [], ◌∷◌, map}
use lib.Dec.{eqb}
use borrow.Author.Tests.{eqb-true, eq-eqb}
use Rattle.value.specs.declared.Words.{Words}
use Rattle.value.specs.Same.{same, nil, is_nil}
use Rattle.value.proofs.Cases.{caseb, iff, and_left, and_right}
use Rattle.value.proofs.Same.{same-eq, eq-same, same_refl}
use Rattle.model.specs.Entries.{Entry, entry, has, find, put, keep, Each}
use Rattle.model.specs.Table.{Table}
use Rattle.original.specs.Original.{MapKey, alive, Cell, cell, Original, Addresses, is_object, matches, killed, revived, has_cell, find_cell, write_cell}

module _ (addresses : Addresses) where
  abbrev pub cell_of : Entry → Cell
  cell_of s = cell (cond (is_nil s.value) (killed addresses (alive s.key)) (alive s.key)) s.value

  abbrev pub cells_of : List Entry → List Cell
  cells_of l = map cell_of l

  abbrev pub original_of : Table → Original
  original_of t = record { array = t.array; map = cells_of t.entries }

  -- ---- the key that meets a cell
  same_object : (j k : Words) → is_object j ≡ true → (is_object k && eqb (addresses.address j) (addresses.address k)) ≡ same j k
  same_object j k o = iff (is_object k && eqb (addresses.address j) (addresses.address k)) (same j k) to back
    where
      to : (is_object k && eqb (addresses.address j) (addresses.address k)) ≡ true → same j k ≡ true
      to e =
          eq-same j k (addresses.apart j k o (and_left (is_object k) (eqb (addresses.address j) (addresses.address k)) e)
          (eqb-true (addresses.address j) (addresses.address k) (and_right (is_object k) (eqb (addresses.address j) (addresses.address k)) e)))

      back : same j k ≡ true → (is_object k && eqb (addresses.address j) (addresses.address k)) ≡ true
      back e =
          let p : j ≡ k = same-eq j k e in
          rw (ap is_object (sym p) ∙ o, eq-eqb (addresses.address j) (addresses.address k) (ap addresses.address p))

  pub matches-cell : (s : Entry) (k : Words) → matches addresses (cell_of s).key k ≡ same s.key k
  unfolding matches
  matches-cell s k =
      caseb (is_nil s.value)
      (λ e. rw e (caseb (is_object s.key) (λ o. rw o (same_object s.key k o)) (λ o. rw o)))
      (λ e. rw e)

  -- ---- searches
  pub has_cell-of : (l : List Entry) (k : Words) → has_cell addresses (cells_of l) k ≡ has l k
  has_cell-of [] k = refl
  has_cell-of (s ∷ ss) k = rw (matches-cell s k) (caseb (same s.key k) (λ e. rw e) (λ e. rw e (has_cell-of ss k)))

  pub find_cell-of : (l : List Entry) (k : Words) → find_cell addresses (cells_of l) k ≡ find l k
  find_cell-of [] k = refl
  find_cell-of (s ∷ ss) k = rw (matches-cell s k, find_cell-of ss k)

  -- ---- writes
  write_cell-of : (l : List Entry) (k : Words) (f : MapKey → MapKey) (v : Words) → ((s : Entry) → s.key ≡ k → cell (f (cell_of s).key) v ≡ cell_of (entry s.key v))
      → write_cell addresses (cells_of l) k f v ≡ cells_of (put l k v)
  write_cell-of [] k f v h = refl
  write_cell-of (s ∷ ss) k f v h =
      rw (matches-cell s k)
      (caseb (same s.key k)
      (λ e. rw (e, h s (same-eq s.key k e)))
      (λ e. rw (e, write_cell-of ss k f v h)))

  pub cleared-cells : (l : List Entry) (k : Words) → write_cell addresses (cells_of l) k (killed addresses) nil ≡ cells_of (put l k nil)
  cleared-cells l k = write_cell-of l k (killed addresses) nil (λ s p. rw (same_refl nil) (ap (λ (a : MapKey). cell a nil) (once s)))
    where
      once : (s : Entry) → killed addresses (cell_of s).key ≡ killed addresses (alive s.key)
      once s = caseb (is_nil s.value) (λ e. rw e (caseb (is_object s.key) (λ o. rw o) (λ o. rw (o, o)))) (λ e. rw e)

  pub written-cells : (l : List Entry) (k v : Words) → is_nil v ≡ false → write_cell addresses (cells_of l) k (revived k) v ≡ cells_of (put l k v)
  written-cells l k v z = write_cell-of l k (revived k) v (λ s p. rw z (ap (λ (a : MapKey). cell a v) (again s p)))
    where
      again : (s : Entry) → s.key ≡ k → revived k (cell_of s).key ≡ alive s.key
      again s p = caseb (is_nil s.value) (λ e. rw e (caseb (is_object s.key) (λ o. rw o (ap alive (sym p))) (λ o. rw o))) (λ e. rw e)

  pub keep-cells : {P : Entry → Type 0} (p : Cell → Bool) (q : Entry → Bool) (l : List Entry) → ((s : Entry) → P s → p (cell_of s) ≡ q s) → Each P l → keep p (cells_of l) ≡ cells_of (keep q l)
  keep-cells p q [] f a = refl
  keep-cells p q (s ∷ ss) f a = rw (f s a.0) (caseb (q s) (λ e. rw (e, keep-cells p q ss f a.1)) (λ e. rw (e, keep-cells p q ss f a.1)))
