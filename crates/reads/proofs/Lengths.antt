-- The length that a store's table answers, by the tests that lead to it: one law for each way through `border`. Assumes nothing.
use mathlib.Core.Path.{◌≡◌, ap, ◌∙◌}
use mathlib.Core.Bool.{Bool, true, false, cond, not, ◌&&◌}
use mathlib.Core.List.{List}
use Prim.Native.Nat.{ℕ, pred, ◌+◌, ◌-◌, ◌<◌}
use native.Mathlib.Omega.{arith}
use lib.Dec.{eqb, leb}
use lib.ListN.{length, get_or}
use borrow.Author.Tests.{leb-true, le-leb, eqb-true, eq-eqb, ne_eqb}
use Rattle.value.specs.declared.Words.{Words}
use Rattle.value.specs.Same.{nil, is_nil}
use Rattle.value.proofs.Cases.{caseb}
use Rattle.key.specs.Canonical.{integer, largest}
use Rattle.lent.specs.Lent.{value_at}
use Rattle.model.specs.Entries.{Entry, has}
use Rattle.model.specs.Growth.{tabulate}
use Rattle.model.specs.Length.{nil_at, halve, double, length_of}
use Rattle.model.proofs.Entries.{length-tabulate, tabulate-at}
use Rattle.store.specs.Store.{Store}
use Rattle.store.specs.Written.{entry_at, table_of, entries_in}

module _ (s : Store) where
  abbrev A : ℕ
  A = s.sizes.size

  abbrev E : ℕ
  E = s.sizes.count

  abbrev array : List Words
  array = tabulate A (value_at s.slices.array) 0

  abbrev entries : List Entry
  entries = entries_in s.slices.entries E

  abbrev nils : ℕ → Bool
  nils = nil_at (table_of s)

  -- where doubling from the array's end stops
  abbrev top : ℕ
  top = double (λ n. has entries (integer n)) 64 (A + 1)

  len_a : length array ≡ A
  len_a = length-tabulate A (value_at s.slices.array) 0

  len_e : length entries ≡ E
  len_e = length-tabulate E (entry_at s.slices.entries) 0

  in-sizes : length_of (table_of s) ≡
      cond (leb 1 A && is_nil (get_or array (pred A) nil))
      (halve nils 64 0 A)
      (cond (eqb E 0) A (cond (eqb top largest && not (nils top)) top (halve nils 64 A top)))
  unfolding length_of table_of
  in-sizes = rw (len_a, len_e)

  last-value : 0 < A → get_or array (pred A) nil ≡ value_at s.slices.array (A - 1)
  last-value h = let p : pred A ≡ A - 1 = omega arith in ap (λ (i : ℕ). get_or array i nil) p ∙ tabulate-at A (value_at s.slices.array) nil (A - 1) (omega arith)

  pub length-within : 0 < A → is_nil (value_at s.slices.array (A - 1)) ≡ true → length_of (table_of s) ≡ halve nils 64 0 A
  length-within h e = in-sizes ∙ rw (le-leb 1 A h, ap is_nil (last-value h) ∙ e)

  -- from here on the array is empty, or its last value is not Nil
  module _ (full : 0 < A → is_nil (value_at s.slices.array (A - 1)) ≡ false) where
    not_within : (leb 1 A && is_nil (get_or array (pred A) nil)) ≡ false
    not_within =
        caseb (leb 1 A)
        (λ b. let h : 0 < A = leb-true 1 A b in rw b (ap is_nil (last-value h) ∙ full h))
        (λ b. rw b)

    pub length-array : E ≡ 0 → length_of (table_of s) ≡ A
    length-array q = in-sizes ∙ rw (not_within, eq-eqb E 0 q)

    past-array : (E ≡ 0 → ⊥) → (n : ℕ) → n ≡ top → length_of (table_of s) ≡ cond (eqb n largest && not (nils n)) n (halve nils 64 A n)
    past-array q n p = in-sizes ∙ rw (not_within, ne_eqb E 0 q, p)

    pub length-largest : (E ≡ 0 → ⊥) → (n : ℕ) → n ≡ top → n ≡ largest → nils n ≡ false → length_of (table_of s) ≡ n
    length-largest q n p l e = past-array q n p ∙ rw (eq-eqb n largest l, e)

    pub length-past : (E ≡ 0 → ⊥) → (n : ℕ) → n ≡ top → (n ≡ largest → nils n ≡ true) → length_of (table_of s) ≡ halve nils 64 A n
    length-past q n p l =
        past-array q n p
        ∙ caseb (eqb n largest) (λ b. rw (b, l (eqb-true n largest b))) (λ b. rw b)
