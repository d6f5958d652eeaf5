-- The table that lent words are read as: what is written reads back, and words with zeros after them are what they are read as, written.
-- Assumes nothing.
use mathlib.Core.Path.{◌≡◌, refl, sym, ap, ◌∙◌}
use mathlib.Core.List.{List, [], ◌∷◌}
use Prim.Native.Nat.{ℕ, zero, suc, ◌+◌, ◌*◌, ◌≤◌, ◌<◌}
use native.Mathlib.Omega.{arith}
use lib.ListN.{length, get_or}
use Rattle.value.specs.Encoding.{Decodes}
use Rattle.value.specs.Same.{nil}
use Rattle.lent.specs.Lent.{value_at, key_at, lent_words, ZeroFrom}
use Rattle.lent.proofs.Lent.{value_lent, lent_is}
use Rattle.index.specs.Home.{home_of}
use Rattle.index.specs.Index.{index_of, homes, index_words, Distinct}
use Rattle.index.proofs.Insert.{index-cong}
use Rattle.model.specs.Entries.{Entry, entry, keys_of, distinct, Each}
use Rattle.model.specs.Table.{Table}
use Rattle.model.specs.Growth.{tabulate}
use Rattle.model.specs.WellFormed.{DecodesBoth}
use Rattle.model.proofs.Entries.{distinct_apart, apart_distinct, length-tabulate, tabulate-at, tabulate-is, map-tabulate}
use Rattle.store.specs.Store.{Store, Lengths}
use Rattle.store.specs.Written.{sides, key_homes, written, entry_at, table_of, entries_in}

-- ---- entries as values
pub length-sides : (es : List Entry) → length (sides es) ≡ 2 * length es
length-sides [] = refl
length-sides (s ∷ ss) = omega (arith, length-sides ss)

sides-at : (es : List Entry) (i : ℕ) → entry (get_or (sides es) (2 * i) nil) (get_or (sides es) (2 * i + 1) nil) ≡ get_or es i (entry nil nil)
sides-at [] i = refl
sides-at (s ∷ ss) zero = refl
sides-at (s ∷ ss) (suc i) =
    let p : 2 * suc i ≡ suc (suc (2 * i)) = omega arith in
    let q : 2 * suc i + 1 ≡ suc (suc (2 * i + 1)) = omega arith in
    (λ j. entry (get_or (sides (s ∷ ss)) (p j) nil) (get_or (sides (s ∷ ss)) (q j) nil)) ∙ sides-at ss i

pub each-sides : (es : List Entry) → Each DecodesBoth es → Each Decodes (sides es)
each-sides [] a = tt
each-sides (s ∷ ss) a = (a.0.0, (a.0.1, each-sides ss a.1))

pub sides-tabulate : (ws : List ℕ) (n i : ℕ) → sides (tabulate n (entry_at ws) i) ≡ tabulate (2 * n) (value_at ws) (2 * i)
sides-tabulate ws zero i = refl
sides-tabulate ws (suc n) i =
    let p : 2 * suc n ≡ suc (suc (2 * n)) = omega arith in
    let q : 2 * i + 1 ≡ suc (2 * i) = omega arith in
    let r : 2 * suc i ≡ suc (suc (2 * i)) = omega arith in
    (λ j. value_at ws (2 * i) ∷ value_at ws (q j) ∷ (sides-tabulate ws n (suc i) ∙ ap (tabulate (2 * n) (value_at ws)) r) j)
    ∙ ap (λ (m : ℕ). tabulate m (value_at ws) (2 * i)) (sym p)

-- ---- how long the table is that a store is read as
pub length-array : (s : Store) → length (table_of s).array ≡ s.sizes.size
unfolding table_of
length-array s = length-tabulate s.sizes.size (value_at s.slices.array) 0

pub length-entries : (s : Store) → length (table_of s).entries ≡ s.sizes.count
unfolding table_of
length-entries s = length-tabulate s.sizes.count (entry_at s.slices.entries) 0

-- ---- what is written reads back
entry-lent : (n : ℕ) (es : List Entry) (i : ℕ) → i < length es → entry_at (lent_words n (sides es)) i ≡ get_or es i (entry nil nil)
entry-lent n es i h =
    let k = value_lent n (sides es) (2 * i) (omega (arith, length-sides es)) in
    let v = value_lent n (sides es) (2 * i + 1) (omega (arith, length-sides es)) in
    (λ j. entry (k j) (v j)) ∙ sides-at es i

pub table-written : (l : Lengths) (t : Table) → table_of (written l t) ≡ t
unfolding table_of written
table-written l t =
    let a = tabulate-is t.array (value_at (lent_words l.array t.array)) nil (value_lent l.array t.array) in
    let e = tabulate-is t.entries (entry_at (lent_words l.entries (sides t.entries))) (entry nil nil) (entry-lent l.entries t.entries) in
    λ j. record { array = a j; entries = e j; allowance = t.allowance }

-- ---- n values of these words, written
pub values-lent : (ws : List ℕ) (n : ℕ) → 2 * n ≤ length ws → ZeroFrom (2 * n) ws → ws ≡ lent_words (length ws) (tabulate n (value_at ws) 0)
values-lent ws n h z =
    let len : length (tabulate n (value_at ws) 0) ≡ n = length-tabulate n (value_at ws) 0 in
    lent_is ws (tabulate n (value_at ws) 0) (omega arith) (λ i l. sym (tabulate-at n (value_at ws) nil i (omega arith))) (rw len z)

-- ---- the keys of e entries
module _ (ws : List ℕ) (e : ℕ) where
  keys : keys_of (entries_in ws e) ≡ tabulate e (key_at ws) 0
  keys = map-tabulate (λ (s : Entry). s.key) e (entry_at ws) 0

  key : (i : ℕ) → i < e → get_or (tabulate e (key_at ws) 0) i nil ≡ key_at ws i
  key i h = tabulate-at e (key_at ws) nil i h

  len : length (tabulate e (key_at ws) 0) ≡ e
  len = length-tabulate e (key_at ws) 0

  pub distinct-read : Distinct ws e → distinct (keys_of (entries_in ws e))
  distinct-read d =
      rw keys (apart_distinct (tabulate e (key_at ws) 0)
      (λ i j a b p. let x : i < e = omega (arith, len) in let y : j < e = omega (arith, len) in d i j x y (sym (key i x) ∙ p ∙ key j y)))

  pub read-distinct : distinct (keys_of (entries_in ws e)) → Distinct ws e
  read-distinct d i j a b p =
      distinct_apart (tabulate e (key_at ws) 0) (rw keys at d) i j (omega (arith, len)) (omega (arith, len)) (key i a ∙ p ∙ sym (key j b))

  pub index_read : (n : ℕ) → index_of n (key_homes n (keys_of (entries_in ws e))) (length (entries_in ws e)) ≡ index_words n ws e
  index_read n =
      rw (keys, length-tabulate e (entry_at ws) 0) (index-cong n (key_homes n (tabulate e (key_at ws) 0)) (homes n ws) e (λ i h. ap (home_of n) (key i h)))
