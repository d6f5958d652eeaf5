-- What a write leaves of a store that is a table written: that table after the write, written. An entry appended needs an index of one
-- entry more, made at once or by a word put in. Assumes nothing.
use mathlib.Core.Path.{◌≡◌, refl, sym, ap, ◌∙◌}
use mathlib.Core.List.{List, [], ◌∷◌, ◌++◌}
use mathlib.Core.Logic.{inl}
use Prim.Native.Nat.{ℕ, zero, suc, ◌+◌, ◌*◌, ◌≤◌, ◌<◌}
use native.Mathlib.Numerals.{add-one}
use native.Mathlib.Omega.{arith}
use lib.ListN.{length, get_or, set, length-set, length-append}
use lib.Seq.{append_snoc}
use Rattle.value.specs.declared.Words.{Words}
use Rattle.value.specs.Encoding.{words}
use Rattle.value.specs.Same.{nil}
use Rattle.lent.specs.Lent.{key_at, lent_words, put_value, put_entry}
use Rattle.lent.proofs.Lent.{length-lent}
use Rattle.lent.proofs.Put.{put-lent, append-lent, put-entry-at, put-entry-word}
use Rattle.index.specs.Home.{home_of}
use Rattle.index.specs.Index.{reached, is_empty, placed, index_of, homes, index_words}
use Rattle.index.proofs.Insert.{index-cong}
use Rattle.model.specs.Entries.{Entry, entry, keys_of, distinct, put}
use Rattle.model.specs.Table.{Table, place_of}
use Rattle.model.specs.Calls.{write_array, write_entry, append}
use Rattle.model.proofs.Entries.{put-keys, length-put}
use Rattle.model.proofs.Places.{put-place}
use Rattle.store.specs.Store.{Store, store_of, Lengths}
use Rattle.store.specs.Written.{sides, key_homes, written, table_of}
use Rattle.store.proofs.Views.{length-sides, table-written, index_read}

-- ---- entries as values
sides-set : (es : List Entry) (i : ℕ) (v : Words) → set (sides es) (2 * i + 1) v ≡ sides (set es i (entry (get_or es i (entry nil nil)).key v))
sides-set [] i v = refl
sides-set (s ∷ ss) zero v = refl
sides-set (s ∷ ss) (suc i) v =
    let p : 2 * suc i + 1 ≡ suc (suc (2 * i + 1)) = omega arith in rw p (ap {B = List Words} (λ r. s.key ∷ s.value ∷ r) (sides-set ss i v))

sides-append : (es fs : List Entry) → sides (es ++ fs) ≡ sides es ++ sides fs
sides-append [] fs = refl
sides-append (s ∷ ss) fs = ap {B = List Words} (λ r. s.key ∷ s.value ∷ r) (sides-append ss fs)

append-sides : (n : ℕ) (es : List Entry) (k v : Words) → 4 * length es + 4 ≤ n
    → put_entry (lent_words n (sides es)) (length es) k v ≡ lent_words n (sides (es ++ (entry k v ∷ [])))
unfolding put_entry
append-sides n es k v h =
    let keyed = sides es ++ (k ∷ []) in
    let p : 2 * length es ≡ length (sides es) = sym (length-sides es) in
    let q : 2 * length es + 1 ≡ length keyed = omega (arith, length-append (sides es) (k ∷ [])) in
    (λ j. put_value (put_value (lent_words n (sides es)) (p j) k) (q j) v)
    ∙ ap (λ (ws : List ℕ). put_value ws (length keyed) v) (append-lent n (sides es) k (omega arith))
    ∙ append-lent n keyed v (omega arith)
    ∙ ap (lent_words n) (append_snoc (sides es) k (v ∷ []) ∙ sym (sides-append es (entry k v ∷ [])))

-- ---- the index of a table that is written is that of its entry words
index-written : (l : Lengths) (t : Table) → (written l t).slices.index ≡ index_words l.index (written l t).slices.entries (length t.entries)
unfolding written table_of
index-written l t =
    let ew = lent_words l.entries (sides t.entries) in
    ap (λ (r : Table). index_of l.index (key_homes l.index (keys_of r.entries)) (length r.entries)) (sym (table-written l t))
    ∙ index_read ew (length t.entries) l.index

module _ (l : Lengths) (t : Table) (s : Store) (is : s ≡ written l t) where
  abbrev E : ℕ
  E = length t.entries

  pub array-put : (k v : Words) → place_of k < length t.array → 2 * length t.array ≤ l.array
      → store_of (put_value s.slices.array (place_of k) v) s.slices.entries s.slices.index s.sizes ≡ written l (write_array t k v)
  unfolding written
  array-put k v h g =
      let a = put-lent l.array t.array (place_of k) v h g in
      let long = sym (length-set t.array (place_of k) v) in
      rw is
      (λ j. store_of (a j) (written l t).slices.entries (written l t).slices.index
      (record { size = long j; allowance = t.allowance; count = E }))

  pub entry-put : (i : ℕ) (k v : Words) → distinct (keys_of t.entries) → i < E → (get_or t.entries i (entry nil nil)).key ≡ k → 4 * E ≤ l.entries
      → store_of s.slices.array (put_value s.slices.entries (2 * i + 1) v) s.slices.index s.sizes ≡ written l (write_entry t k v)
  unfolding written
  entry-put i k v d h p g =
      let es = t.entries in
      let q : set es i (entry (get_or es i (entry nil nil)).key v) ≡ put es k v =
      ap (λ (x : Words). set es i (entry x v)) p ∙ sym (put-place es i k v d h p) in
      let long : length (sides es) ≡ 2 * E = length-sides es in
      let e = put-lent l.entries (sides es) (2 * i + 1) v (omega arith) (omega arith) ∙ ap (lent_words l.entries) (sides-set es i v ∙ ap sides q) in
      let ks = sym (put-keys es k v) in
      let many = sym (length-put es k v) in
      rw is
      (λ j. store_of (lent_words l.array t.array) (e j) (index_of l.index (key_homes l.index (ks j)) (many j))
      (record { size = length t.array; allowance = t.allowance; count = many j }))

  -- one entry more, its words after the last entry's
  abbrev appended : Words → Words → ℕ → List ℕ → Store
  appended k v M iw = store_of s.slices.array (put_entry s.slices.entries E k v) iw (record { size = s.sizes.size; allowance = M; count = E + 1 })

  pub append-indexed : (k v : Words) (M : ℕ) {iw' : List ℕ} → 4 * E + 4 ≤ l.entries
      → iw' ≡ index_words l.index (put_entry s.slices.entries E k v) (E + 1) → appended k v M iw' ≡ written l (append t k v M)
  unfolding written
  append-indexed k v M {iw'} g q =
      let es = t.entries ++ (entry k v ∷ []) in
      let e : put_entry s.slices.entries E k v ≡ lent_words l.entries (sides es) =
      ap (λ (x : Store). put_entry x.slices.entries E k v) is ∙ append-sides l.entries t.entries k v g in
      let many : E + 1 ≡ length es = sym (length-append t.entries (entry k v ∷ [])) in
      let i : iw' ≡ (written l (append t k v M)).slices.index =
      q ∙ (λ j. index_words l.index (e j) (many j)) ∙ sym (index-written l (append t k v M)) in
      λ j. store_of (is j).slices.array (e j) (i j) (record { size = (is j).sizes.size; allowance = M; count = many j })

  -- until it is put in, the index is as it was
  pub still-indexed : (k v : Words) → s.slices.index ≡ index_words l.index (put_entry s.slices.entries E k v) E
  still-indexed k v =
      rw is
      (let ew = (written l t).slices.entries in
      index-written l t
      ∙ index-cong l.index (homes l.index ew) (homes l.index (put_entry ew E k v)) E
      (λ i h. let a = sym (put-entry-word ew E (2 * (2 * i)) k v (inl (omega arith))) in
      let b = sym (put-entry-word ew E (2 * (2 * i) + 1) k v (inl (omega arith))) in
      λ j. home_of l.index (words (a j) (b j))))

  pub append-here : (k v : Words) (M : ℕ) {iw' : List ℕ} {place : ℕ} → 4 * E + 4 ≤ l.entries → iw' ≡ set s.slices.index place (E + 1)
      → place ≡ reached is_empty s.slices.index (home_of l.index k) → appended k v M iw' ≡ written l (append t k v M)
  unfolding written placed index_of
  append-here k v M g q r =
      let ew = s.slices.entries in
      let after = put_entry ew E k v in
      let long : length ew ≡ l.entries =
      ap (λ (x : Store). length x.slices.entries) is ∙ length-lent l.entries (sides t.entries) (omega (arith, length-sides t.entries)) in
      let key : k ≡ key_at after E = sym (put-entry-at ew E k v (omega arith)).0 in
      let still = still-indexed k v in
      append-indexed k v M g
      (q
      ∙ ap (λ (p : ℕ). set s.slices.index p (E + 1)) r
      ∙ (λ j. set (still j) (reached is_empty (still j) (home_of l.index (key j))) (E + 1))
      ∙ ap (index_words l.index after) (sym (add-one E)))
