-- What a rehash leaves: words set to 0 between two places, and on a sound store the writing of the table's `rehashed`. Assumes nothing.
use Rattle.std.proofs.Common.{◌≡◌, ℕ, ◌-◌, ◌*◌, ◌/◌, ◌≤◌, ◌<◌, max, List, length, get_or, refl, sym, ap, subst, ◌∙◌, inl, inr, arith}
use Rattle.std.proofs.Math.ListN.{take-append-drop}
use Rattle.std.proofs.lemmas.Bool.{cases_lt}
use Rattle.std.proofs.lemmas.Grind.{common_steps}
use Rattle.lent.specs.Lent.{lent_words, ZeroFrom}
use Rattle.index.specs.Home.{home_of}
use Rattle.index.specs.Index.{index_of, homes, index_words, Indexes}
use Rattle.index.proofs.Insert.{index-cong}
use Rattle.model.specs.Entries.{Entry, keys_of}
use Rattle.model.specs.Growth.{tabulate, rehashed}
use Rattle.model.proofs.Entries.{length-tabulate}
use Rattle.store.specs.declared.Record.{Record}
use Rattle.store.specs.Store.{slices, Store, store, store_of, lengths_of}
use Rattle.store.specs.Written.{sides, key_homes, written, Sound, entry_at, table_of, entries_in}
use Rattle.store.proofs.Views.{length-array, sides-tabulate, values-lent, index_read}
use Rattle.store.proofs.Sound.{sound-clauses}
use Rattle.rehash.specs.Rehash.{staying_in, StaysTo, Compacted, zeroed, Rehashes}
use Rattle.rehash.proofs.Turns.{entry-same, entries-same, compact-start}
use Rattle.rehash.proofs.Moved.{keyed, moved-lookup}

-- ---- words set to 0 between two places
module _ (ws : List ℕ) (from to : ℕ) (h : from ≤ to) (g : to ≤ length ws) where
  zeroed-before : (p : ℕ) → p < from → get_or (zeroed ws from to) p 0 ≡ get_or ws p 0
  zeroed-before p l = grind (arith, common_steps)

  zeroed-within : (p : ℕ) → from ≤ p → p < to → get_or (zeroed ws from to) p 0 ≡ 0
  zeroed-within p l r = grind (arith, common_steps)

  zeroed-after : (p : ℕ) → to ≤ p → get_or (zeroed ws from to) p 0 ≡ get_or ws p 0
  zeroed-after p l = grind (arith, common_steps)

-- ---- entries compacted, the words of those that are gone set to 0, the index taken back to `first` and placed again
module _
    (aw ew iw : List ℕ) (r : Record) (S first n : ℕ) (more : r.size ≤ S) (room : S ≤ length aw / 2) (fits : 4 * r.count ≤ length ew)
    (iw₁ aw' ew₁ ew' iw' : List ℕ)
    (out : Indexes ew r.count iw → Indexes ew first iw₁)
    (c : Compacted aw ew first S r.count n aw' ew₁)
    (cleared : ew' ≡ zeroed ew₁ (4 * n) (4 * r.count))
    (in-again : Indexes ew' first iw₁ → Indexes ew' n iw')
    (long_e : length ew' ≡ length ew₁) (long_i₁ : length iw₁ ≡ length iw) (long_i : length iw' ≡ length iw₁)
  where
    abbrev E : ℕ
    E = r.count

    abbrev s : Store
    s = store_of aw ew iw r

    abbrev r' : Record
    r' = record { size = S; allowance = r.allowance; count = n }

    low : 4 * n ≤ 4 * E
    low = omega (arith, c.few)

    high : 4 * E ≤ length ew₁
    high = omega (arith, c.entries_long)

    kept : (p : ℕ) → p < 4 * n → get_or ew' p 0 ≡ get_or ew₁ p 0
    kept p l = ap (λ (ws : List ℕ). get_or ws p 0) cleared ∙ zeroed-before ew₁ (4 * n) (4 * E) low high p l

    entries-are : entries_in ew' n ≡ staying_in ew E S
    entries-are = entries-same ew' ew₁ n kept ∙ c.entries

    count-is : n ≡ length (staying_in ew E S)
    count-is = sym (length-tabulate n (entry_at ew') 0) ∙ ap length entries-are

    -- the keys before `first` are where they were
    index-front : Indexes ew first iw₁ → Indexes ew' first iw₁
    index-front p =
        p ∙ index-cong (length iw₁) (homes (length iw₁) ew) (homes (length iw₁) ew') first
        (λ i l. let same = entry-same ew' ew i (λ q a b. kept q (omega (arith, c.some)) ∙ c.front q (omega arith)) in
        ap (λ (x : Entry). home_of (length iw₁) x.key) (sym same))

    module _ (g : Sound s) where
      unused : ZeroFrom (4 * n) ew'
      unused p l h =
          ap (λ (ws : List ℕ). get_or ws p 0) cleared
          ∙ elim (cases_lt p (4 * E)) [
            | inl b ↦ zeroed-within ew₁ (4 * n) (4 * E) low high p l b
            | inr b ↦ zeroed-after ew₁ (4 * n) (4 * E) low high p b
                ∙ c.rest p b
                ∙ (sound-clauses s g).entries_unused p b (omega (arith, long_e, c.entries_long))
          ]

      entry-words : ew' ≡ lent_words (length ew) (sides (staying_in ew E S))
      entry-words =
          let long : length ew' ≡ length ew = long_e ∙ c.entries_long in
          values-lent ew' (2 * n) (omega (arith, long, c.few)) (λ p l. unused p (omega arith))
          ∙ ap (lent_words (length ew')) (sym (sides-tabulate ew' n 0))
          ∙ (λ j. lent_words (long j) (sides (entries-are j)))

      index-words : iw' ≡ index_of (length iw) (key_homes (length iw) (keys_of (staying_in ew E S))) (length (staying_in ew E S))
      index-words =
          in-again (index-front (out (sound-clauses s g).index))
          ∙ ap (λ (m : ℕ). index_words m ew' n) (long_i ∙ long_i₁)
          ∙ sym (index_read ew' n (length iw))
          ∙ ap (λ (l : List Entry). index_of (length iw) (key_homes (length iw) (keys_of l)) (length l)) entries-are

      rehashed-written : store_of aw' ew' iw' r' ≡ written (lengths_of s.slices) (rehashed (table_of s) S)
      unfolding written rehashed table_of
      rehashed-written =
          let size : max (length (table_of s).array) S ≡ S = omega (arith, length-array s, more) in
          let array = c.array ∙ moved-lookup s g S more room in
          let many : length (tabulate S (keyed (table_of s)) 0) ≡ S = length-tabulate S (keyed (table_of s)) 0 in
          rw size (λ j. store
          (slices (array j) (entry-words j) (index-words j))
          (record { size = sym many j; allowance = r.allowance; count = count-is j }))

    pub rehashes : (first ≡ E → slices aw' ew' iw' ≡ s.slices) → Rehashes s S first r' (store_of aw' ew' iw' r')
    rehashes q = record { size = refl; allowance = refl; count = count-is; still = q; sound = rehashed-written }

-- ---- no entry goes
zeroed-none : (ws : List ℕ) (from : ℕ) → ws ≡ zeroed ws from from
zeroed-none ws from = let p : from - from ≡ 0 = omega arith in rw p (sym (take-append-drop from ws))

pub nothing-goes : (aw ew iw : List ℕ) (r : Record) (S first : ℕ) → r.size ≤ S → S ≤ length aw / 2 → 4 * r.count ≤ length ew → StaysTo ew first S → first ≡ r.count
    → Rehashes (store_of aw ew iw r) S first (record { size = S; allowance = r.allowance; count = r.count })
    (store_of aw ew iw (record { size = S; allowance = r.allowance; count = r.count }))
nothing-goes aw ew iw r S first more room fits h q =
    rehashes aw ew iw r S first r.count more room fits iw aw ew ew iw
    (λ p. p ∙ ap (index_words (length iw) ew) (sym q))
    (subst (λ (i : ℕ). Compacted aw ew first S i i aw ew) q (compact-start h))
    (zeroed-none ew (4 * r.count))
    (λ p. p ∙ ap (index_words (length iw) ew) q) refl refl refl (λ e. refl)
