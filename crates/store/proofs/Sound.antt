-- A store is sound exactly when 01's clauses hold of it, and then it is the writing of the table that it is read as. Assumes nothing.
use mathlib.Core.Path.{◌≡◌, refl, sym, ap, subst, ◌∙◌}
use mathlib.Core.List.{List}
use Prim.Native.Nat.{ℕ, ◌+◌, ◌-◌, ◌*◌, ◌^◌, ◌≤◌, ◌<◌}
use native.Mathlib.Omega.{arith}
use lib.ListN.{length}
use Rattle.value.specs.declared.Words.{Words}
use Rattle.value.specs.Encoding.{Decodes}
use Rattle.value.specs.Same.{nil}
use Rattle.lent.specs.Lent.{value_at, lent_words, WordSized, ZeroFrom}
use Rattle.lent.proofs.Lent.{zero-lent, length-lent, all-decode}
use Rattle.index.specs.Index.{word_bits, Right}
use Rattle.index.proofs.Insert.{length-index}
use Rattle.model.specs.Entries.{Entry, entry, keys_of}
use Rattle.model.specs.Table.{Table}
use Rattle.model.specs.Growth.{tabulate}
use Rattle.model.specs.WellFormed.{Fair, DecodesBoth, Canonical, Outside, WellFormed}
use Rattle.model.proofs.Entries.{each-tabulate, tabulate-each}
use Rattle.store.specs.declared.Record.{Record}
use Rattle.store.specs.Limits.{array_limit, class_counts}
use Rattle.store.specs.Store.{slices, Store, store, Lengths, lengths, lengths_of, room_of, room_for}
use Rattle.store.specs.Shape.{RightLengths, Shape, Shaped}
use Rattle.store.specs.Written.{sides, key_homes, written, Sound, entry_at, table_of, entries_in}
use Rattle.store.specs.Clauses.{Clauses}
use Rattle.store.proofs.Views.{length-sides, each-sides, length-array, length-entries, sides-tabulate, table-written, values-lent, distinct-read, read-distinct, index_read}

-- the class counts leave out the indices from the largest room up, and no others (01, 'Growth', step 1)
pub classes-reach : 2 ^ (class_counts - 1) ≡ array_limit
classes-reach = refl

pub right-fair : (l : Lengths) → RightLengths l → Fair (room_of l)
right-fair l h = record { integers = omega (arith, h.array_most); counted = omega (arith, h.array_most) }

-- what a right shape leaves room for: A values, E entries, an empty word in the index, and an index word for each position + 1
pub record Fits (l : Lengths) (r : Record) : Type 0 where
  pub array : 2 * r.size ≤ l.array
  pub entries : 4 * r.count ≤ l.entries
  pub index : r.count < l.index
  pub word : r.count < 2 ^ word_bits

pub fits : (l : Lengths) (r : Record) → Shape l r → Fits l r
fits l r h =
    let w = h.lengths in
    record {
      array = omega (arith, w.array_whole, h.size_fits);
      entries = omega (arith, w.entries_whole, h.count_fits, h.allowance_fits);
      index = omega (arith, w.index_least, w.index_enough, h.count_fits, h.allowance_fits);
      word = omega (arith, w.entries_most, h.count_fits, h.allowance_fits);
    }

-- ---- a table that is written
module _ (l : Lengths) (t : Table) (h : RightLengths l) (w : WellFormed (room_of l) t) where
  pub lengths-written : lengths_of (written l t).slices ≡ l
  unfolding written
  lengths-written =
      let a = length-lent l.array t.array (omega (arith, h.array_whole, w.array_fits)) in
      let e = length-lent l.entries (sides t.entries) (omega (arith, h.entries_whole, w.entries_fit, w.allowance_fits, length-sides t.entries)) in
      let n = length-index l.index (key_homes l.index (keys_of t.entries)) (length t.entries) in
      λ j. lengths (a j) (e j) (n j)

  pub written-sound : WordSized (written l t).slices.array → WordSized (written l t).slices.entries → Sound (written l t)
  written-sound a e =
      let p : l ≡ lengths_of (written l t).slices = sym lengths-written in
      record {
        lengths = subst RightLengths p h;
        table = t;
        formed = subst (λ (m : Lengths). WellFormed (room_of m) t) p w;
        is = ap (λ (m : Lengths). written m t) p;
        array_words = a;
        entry_words = e;
      }

-- a sound store is the writing of one table only
pub sound-table : (s : Store) (S : Sound s) → S.table ≡ table_of s
sound-table s S = sym (ap table_of S.is ∙ table-written (lengths_of s.slices) S.table)

pub sound-formed : (s : Store) → Sound s → WellFormed (room_for s) (table_of s)
sound-formed s S = subst (WellFormed (room_for s)) (sound-table s S) S.formed

pub sound-written : (s : Store) → Sound s → s ≡ written (lengths_of s.slices) (table_of s)
sound-written s S = S.is ∙ ap (written (lengths_of s.slices)) (sound-table s S)

-- ---- the clauses
module _ (s : Store) where
  abbrev A : ℕ
  A = s.sizes.size

  abbrev E : ℕ
  E = s.sizes.count

  abbrev aw : List ℕ
  aw = s.slices.array

  abbrev ew : List ℕ
  ew = s.slices.entries

  abbrev iw : List ℕ
  iw = s.slices.index

  abbrev array : List Words
  array = tabulate A (value_at aw) 0

  abbrev entries : List Entry
  entries = entries_in ew E

  pub clauses-sound : Clauses s → Sound s
  unfolding table_of written
  clauses-sound c =
      let h = c.shape in
      let f : Fits (lengths_of s.slices) s.sizes = fits (lengths_of s.slices) s.sizes h in
      let fa : 2 * A ≤ length aw = f.array in
      let fe : 4 * E ≤ length ew = f.entries in
      let pa : aw ≡ lent_words (length aw) array = values-lent aw A fa c.array_unused in
      let pe : ew ≡ lent_words (length ew) (sides entries) =
      values-lent ew (2 * E) (omega (arith, fe)) (λ i l. c.entries_unused i (omega arith)) ∙ ap (lent_words (length ew)) (sym (sides-tabulate ew E 0)) in
      let pi = c.index ∙ sym (index_read ew E (length iw)) in
      record {
        lengths = h.lengths;
        table = table_of s;
        formed =
            record {
              fair = right-fair (lengths_of s.slices) h.lengths;
              array_fits = rw (length-array s) h.size_fits;
              entries_fit = rw (length-entries s) h.count_fits;
              allowance_fits = h.allowance_fits;
              power = rw (length-array s) c.power;
              array_decodes = each-tabulate Decodes A (value_at aw) 0 (λ i a b. c.array_decodes i (omega (arith, fa)));
              entries_decode =
                  each-tabulate DecodesBoth E (entry_at ew) 0
                  (λ i a b. (c.entries_decode (2 * i) (omega (arith, fe)), c.entries_decode (2 * i + 1) (omega (arith, fe))));
              canonical = each-tabulate Canonical E (entry_at ew) 0 (λ i a b. c.canonical i (omega arith));
              outside = rw (length-array s) (each-tabulate (Outside A) E (entry_at ew) 0 (λ i a b. c.outside i (omega arith)));
              apart = distinct-read ew E c.distinct;
            };
        is = λ j. store (slices (pa j) (pe j) (pi j)) (record { size = sym (length-array s) j; allowance = s.sizes.allowance; count = sym (length-entries s) j });
        array_words = c.array_words;
        entry_words = c.entry_words;
      }

  pub sound-clauses : Sound s → Clauses s
  unfolding table_of written
  sound-clauses S =
      let w = sound-formed s S in
      let is : s ≡ written (lengths_of s.slices) (table_of s) = sound-written s S in
      let za : ZeroFrom (2 * A) aw =
      subst (ZeroFrom (2 * A)) (sym (ap (λ (x : Store). x.slices.array) is))
      (λ i b. zero-lent (length aw) array i (omega (arith, b, length-array s))) in
      let ze : ZeroFrom (4 * E) ew =
      subst (ZeroFrom (4 * E)) (sym (ap (λ (x : Store). x.slices.entries) is))
      (λ i b. zero-lent (length ew) (sides entries) i (omega (arith, b, length-sides entries, length-entries s))) in
      record {
        shape =
            record { lengths = S.lengths; size_fits = rw (length-array s) at w.array_fits; count_fits = rw (length-entries s) at w.entries_fit; allowance_fits = w.allowance_fits };
        array_words = S.array_words;
        entry_words = S.entry_words;
        power = rw (length-array s) at w.power;
        array_decodes = all-decode A aw (tabulate-each Decodes nil A (value_at aw) w.array_decodes) za;
        entries_decode =
            all-decode (2 * E) ew (tabulate-each Decodes nil (2 * E) (value_at ew) (rw (sides-tabulate ew E 0) at (each-sides entries w.entries_decode)))
            (λ i b. ze i (omega arith));
        canonical = tabulate-each Canonical (entry nil nil) E (entry_at ew) w.canonical;
        outside = tabulate-each (Outside A) (entry nil nil) E (entry_at ew) (rw (length-array s) at w.outside);
        distinct = read-distinct ew E w.apart;
        array_unused = za;
        entries_unused = ze;
        index = ap (λ (x : Store). x.slices.index) is ∙ index_read ew E (length iw);
      }

  pub clauses-right : Clauses s → Right s.slices.entries s.sizes.count s.slices.index
  clauses-right c = record { room = (fits (lengths_of s.slices) s.sizes c.shape).index; distinct = c.distinct; index = c.index }

  pub sound-shaped : Sound s → Shaped s
  sound-shaped S = (sound-clauses S).shape

  -- a search of a sound store answers by the entries
  pub right-index : Sound s → Right s.slices.entries s.sizes.count s.slices.index
  right-index S = clauses-right (sound-clauses S)
