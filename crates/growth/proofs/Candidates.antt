-- The candidates of growth, counted in three steps from zeros: the new key, the array's values, and the entries (01, 'Growth', step 1).
-- Assumes nothing.
use Rattle.std.proofs.Common.{◌≡◌, ℕ, ◌+◌, ◌/◌, ◌≤◌, max, List, [], ◌++◌, length, replicate, refl, ap, ◌∙◌, arith}
use Rattle.std.proofs.lemmas.Grind.{common_steps}
use Rattle.value.specs.declared.Words.{Words}
use Rattle.key.specs.Canonical.{array_index}
use Rattle.lent.specs.Lent.{value_at}
use Rattle.model.specs.Table.{Table, array_pairs, pairs}
use Rattle.model.specs.Growth.{with_index, indices, candidates, count_below, best, optimal_size, tabulate}
use Rattle.model.proofs.Places.{array-tabulate}
use Rattle.store.specs.declared.Record.{Record}
use Rattle.store.specs.Limits.{array_limit, entry_limit, class_counts}
use Rattle.store.specs.Store.{store_of}
use Rattle.store.specs.Written.{pair_at, entry_at, table_of, entries_in}
use Rattle.growth.specs.Counts.{Counted, Holds, AtMost, GrownSize}
use Rattle.growth.proofs.Tally.{index-append, indices-append, index-le}
use Rattle.growth.proofs.Steps.{counted-then, counted-most}
use Rattle.growth.proofs.Turns.{firsts-le}

candidates-are : (t : Table) (k : Words) → candidates t k ≡ with_index (array_index k) [] ++ (indices (array_pairs 0 t.array) ++ indices t.entries)
unfolding candidates pairs
candidates-are t k =
    index-append (array_index k) [] (indices (array_pairs 0 t.array ++ t.entries))
    ∙ ap (λ (l : List ℕ). with_index (array_index k) [] ++ l) (indices-append (array_pairs 0 t.array) t.entries)

abbrev zeros : List ℕ
zeros = replicate class_counts 0

zeros-most : AtMost 0 zeros
zeros-most = record { long = refl; each = λ k. grind (arith, common_steps) }

-- ---- the steps, and how large counts are after each
module _ (aw ew : List ℕ) (r : Record) (k : Words) where
  abbrev of_key : List ℕ
  of_key = with_index (array_index k) []

  abbrev of_array : List ℕ
  of_array = indices (array_pairs 0 (tabulate r.size (value_at aw) 0))

  abbrev of_entries : List ℕ
  of_entries = indices (entries_in ew r.count)

  module _ {c : List ℕ} (s : Counted of_key zeros c) where
    pub key-most : AtMost 1 c
    key-most = counted-most 0 1 zeros-most s (index-le (array_index k) [])

    module _ {c' : List ℕ} (t : Counted of_array c c') where
      pub array-most : r.size ≤ array_limit → AtMost (array_limit + 1) c'
      array-most h = counted-most 1 array_limit key-most t (rw (array-tabulate r.size (value_at aw) 0) (omega (arith, firsts-le (pair_at aw) r.size)))

      module _ {c'' : List ℕ} (u : Counted of_entries c' c'') where
        pub entries-most : r.size ≤ array_limit → r.count ≤ entry_limit → AtMost (array_limit + entry_limit + 1) c''
        entries-most h g = counted-most (array_limit + 1) entry_limit (array-most h) u (omega (arith, firsts-le (entry_at ew) r.count))

        -- all together count the candidates
        all-counted : (iw : List ℕ) → Holds (candidates (table_of (store_of aw ew iw r)) k) c''
        unfolding table_of
        all-counted iw j lt =
            let all = counted-then of_key (of_array ++ of_entries) s (counted-then of_array of_entries t u) in
            rw (candidates-are (table_of (store_of aw ew iw r)) k) (grind (arith, all.each j lt, zeros-most.each j))

        pub grown-size : (iw : List ℕ) {m : ℕ} (n : ℕ) → ((l : List ℕ) → Holds l c'' → n ≡ best (λ S. count_below S l) (length aw / 2) class_counts) → m ≡ max r.size n
            → GrownSize (store_of aw ew iw r) k m
        unfolding optimal_size
        grown-size iw n b e = e ∙ ap (max r.size) (b (candidates (table_of (store_of aw ew iw r)) k) (all-counted iw))
