-- The original's set is a map's set, whatever hashbrown and Vec choose: the value it answers is what the map had, and afterwards the map has
-- the new value at that key and is as before elsewhere. Growth and reserve change no value. Assumes nothing.
use mathlib.Core.Path.{◌≡◌, refl, sym, ap, ◌∙◌, fun_ext}
use mathlib.Core.Bool.{Bool, true, false, cond, not, ◌&&◌}
use mathlib.Core.List.{List, [], ◌∷◌, map-append}
use Prim.Native.Nat.{ℕ, suc, ◌≤◌, ◌<◌, max}
use native.Mathlib.Omega.{arith}
use lib.Dec.{ltb}
use lib.ListN.{length, get_or, set, get_or-eq_default}
use borrow.Author.Tests.{ltb-true, ltb-false}
use Rattle.value.specs.declared.Words.{Words}
use Rattle.value.specs.Same.{same, nil, is_nil}
use Rattle.value.proofs.Cases.{caseb, clash}
use Rattle.value.proofs.Same.{same-eq, same_refl}
use Rattle.key.specs.Canonical.{integer, largest, canonical_key}
use Rattle.key.proofs.Own.{by_key}
use Rattle.key.proofs.Original.{original-key, original-index}
use Rattle.model.specs.Entries.{Entry, entry, has, find, keep, live}
use Rattle.model.specs.Table.{Table, below, within, place_of, lookup, get_of}
use Rattle.model.specs.Growth.{tabulate, stays, rehashed}
use Rattle.model.specs.Calls.{write_array, write_entry, append}
use Rattle.model.proofs.Entries.{updated, find_absent}
use Rattle.model.proofs.Array.{index-integer, within-integer, outside-integer, lookup-array, lookup-within, lookup-outside, lookup_absent}
use Rattle.model.proofs.Map.{write_array-lookup, write_entry-lookup, append-lookup, nil-again, rehashed-lookup, purged-lookup}
use Rattle.original.specs.Original.{Cell, Original, Addresses, find_cell, has_value, map_index, Choice, OriginalOutcome, original_outcome, with_array, with_map, set_reserved, grown_value_at, resized, grown, original_get, original_set, original_reserve}
use Rattle.original.proofs.Cells.{cell_of, cells_of, original_of, has_cell-of, find_cell-of, cleared-cells, written-cells, keep-cells}
use Rattle.original.proofs.Right.{Placed, PlacedEntry, Right, with_entries, there, right-numbered, right-array, right-write, right-append, right-purged, right-rehashed}
use Rattle.std.specs.Prelude.{Ok, Err}
use Rattle.value.specs.declared.refusal.Refusal.{Refusal}
use Rattle.value.specs.Refusals.{refusal_number}

module _ (addresses : Addresses) where
  -- a table of the original's that stands for one of ours, with the map m
  pub record StandsFor (m : Words → Words) (r : Original) : Type 0 where
    pub table : Table
    pub is : r ≡ original_of addresses table
    pub right : Right table
    pub holds : (j : Words) → lookup table j ≡ m j

  pub carried : {m n : Words → Words} {r : Original} → ((j : Words) → m j ≡ n j) → StandsFor m r → StandsFor n r
  carried h s = record { table = s.table; is = s.is; right = s.right; holds = λ j. s.holds j ∙ h j }

  -- a set of the original's that is done
  pub record OriginalSets (m : Words → Words) (k v : Words) (a : OriginalOutcome) : Type 0 where
    pub ok : a.refusal ≡ 0
    pub previously : a.previous ≡ m k
    pub now : StandsFor (updated m k v) a.now

  -- ---- growth is our growth to that size
  nil-or : (v : Words) → cond (is_nil v) nil v ≡ v
  nil-or v = caseb (is_nil v) (λ e. rw e (sym (same-eq v nil e))) (λ e. rw e)

  value-grown : (t : Table) (i : ℕ) → Right t → grown_value_at addresses (original_of addresses t) i ≡ lookup t (integer (suc i))
  value-grown t i s =
      let k : Words = integer (suc i) in
      ap (λ (x : Words). cond (is_nil x) (get_or t.array i nil) x) (find_cell-of addresses t.entries k)
      ∙ (caseb (ltb i (length t.array))
      (λ e. let h : i < length t.array = ltb-true i (length t.array) e in
      let l : i < largest = omega (arith, s.in_range) in
      let none : find t.entries k ≡ nil = find_absent t.entries k (absent k (within-integer (length t.array) i h l)) in
      rw (none, same_refl nil) (sym (lookup-array t k i (index-integer i l) h)))
      (λ e. let h : length t.array ≤ i = ltb-false i (length t.array) e in
      rw (get_or-eq_default t.array nil h) (nil-or (find t.entries k) ∙ sym (lookup-outside t k (outside-integer (length t.array) i h)))))
    where
      absent : (k : Words) → within (length t.array) k ≡ true → has t.entries k ≡ false
      absent k e = caseb (has t.entries k) (λ h. clash e (there t s k h).outside) (λ h. h)

  -- a cell with a value is alive, and has the index of its key
  staying-cell : {A : ℕ} (size : ℕ) (s : Entry) → PlacedEntry A s → (live s && not (below size (map_index (cell_of addresses s).key))) ≡ stays size s
  unfolding stays within
  staying-cell size s p = caseb (is_nil s.value) (λ e. rw e) (λ e. rw (e, original-index s.key, p.canonical))

  resized-is : (t : Table) (size : ℕ) → Right t → length t.array < size → resized addresses (original_of addresses t) size ≡ original_of addresses (rehashed t size)
  unfolding resized rehashed
  resized-is t size s h =
      let A : max (length t.array) size ≡ size = omega arith in
      rw A (λ i. record {
        array = tabulate size (fun_ext (λ (n : ℕ). value-grown t n s) i) 0;
        map = keep-cells addresses (λ c. has_value c && not (below size (map_index c.key))) (stays size) t.entries (staying-cell size) s.placed i;
      })

  grown-is : (c : Choice) (t : Table) → Right t → StandsFor (lookup t) (grown addresses c (original_of addresses t))
  unfolding grown
  grown-is c t s =
      caseb (ltb (length t.array) c.size)
      (λ e. rw e (record {
        table = rehashed t c.size;
        is = resized-is t c.size s (ltb-true (length t.array) c.size e);
        right = right-rehashed t s c.size c.fits;
        holds = λ j. rehashed-lookup t c.size j s.apart;
      }))
      (λ e. rw e (record { table = t; is = refl; right = s; holds = λ j. refl }))

  -- ---- the three writes
  abbrev at_place : Original → Words → Words → OriginalOutcome
  at_place r k v = original_outcome 0 (get_or r.array (place_of k) nil) (with_array r (set r.array (place_of k) v))

  at-place : (t : Table) (k v : Words) → Right t → within (length t.array) k ≡ true → OriginalSets (lookup t) k v (at_place (original_of addresses t) k v)
  at-place t k v s b =
      record {
        ok = refl;
        previously = sym (lookup-within t k b);
        now = record { table = write_array t k v; is = refl; right = right-array t s k v; holds = λ j. write_array-lookup t k v j (right-numbered t s) b };
      }

  -- the cell of a key written, its entry with it
  at-cell : (t : Table) (k v : Words) (m : List Cell) → Right t → Placed (length t.array) k → has t.entries k ≡ true → m ≡ cells_of addresses (write_entry t k v).entries
      → OriginalSets (lookup t) k v (original_outcome 0 (find_cell addresses (original_of addresses t).map k) (with_map (original_of addresses t) m))
  at-cell t k v m s p h g =
      record {
        ok = refl;
        previously = find_cell-of addresses t.entries k ∙ sym (lookup-outside t k p.outside);
        now = record {
          table = write_entry t k v;
          is = ap (with_map (original_of addresses t)) g;
          right = right-write t s k v;
          holds = λ j. write_entry-lookup t k v j (right-numbered t s) p.outside h;
        };
      }

  in_map : (t : Table) (k v : Words) → Right t → Placed (length t.array) k → is_nil v ≡ false → OriginalSets (lookup t) k v (set_reserved addresses (original_of addresses t) k v)
  unfolding set_reserved
  in_map t k v s p z =
      rw (has_cell-of addresses t.entries k) (caseb (has t.entries k)
      (λ h. rw h (at-cell t k v _ s p h (written-cells addresses t.entries k v z)))
      (λ h. rw h (record {
        ok = refl;
        previously = sym (lookup_absent t k p.outside h);
        now = record {
          table = append t k v 0;
          is = ap (with_map (original_of addresses t)) (sym (map-append (cell_of addresses) t.entries (entry k v ∷ []) ∙ rw z));
          right = right-append t s k v p h;
          holds = λ j. append-lookup t k v j (right-numbered t s) 0 p.outside h;
        };
      })))

  -- Nil set where the map has no such key
  absent : (t : Table) (k : Words) → Right t → Placed (length t.array) k → has t.entries k ≡ false → OriginalSets (lookup t) k nil (original_outcome 0 nil (original_of addresses t))
  absent t k s p h =
      let z : lookup t k ≡ nil = lookup_absent t k p.outside h in
      record { ok = refl; previously = sym z; now = record { table = t; is = refl; right = s; holds = λ j. nil-again (lookup t) k nil j (same_refl nil) z } }

  -- ---- every way of set
  -- what is set after growth is set before it
  moved : (m n : Words → Words) (k v : Words) (a : OriginalOutcome) → ((j : Words) → n j ≡ m j) → OriginalSets n k v a → OriginalSets m k v a
  moved m n k v a g s = record { ok = s.ok; previously = s.previously ∙ g k; now = carried (λ j. ap (λ (x : Words). cond (same k j) v x) (g j)) s.now }

  pub original-sets : (c : Choice) (t : Table) (key k v : Words) → Right t → canonical_key key ≡ Ok k → canonical_key k ≡ Ok k
      → OriginalSets (lookup t) k v (original_set addresses c (original_of addresses t) key v)
  unfolding original_set within
  original-sets c t key k v s e own =
      let g : StandsFor (lookup t) (grown addresses c (original_of addresses t)) = grown-is c t s in
      let u : Table = g.table in
      rw (original-index key, original-key key, e)
      (caseb (within (length t.array) k)
      (λ b. rw b (at-place t k v s b))
      (λ b. let p : Placed (length t.array) k = record { canonical = own; outside = b } in
      rw b (caseb (is_nil v)
      (λ z. rw (z, same-eq v nil z, has_cell-of addresses t.entries k) (caseb (has t.entries k)
      (λ h. rw h (at-cell t k nil _ s p h (cleared-cells addresses t.entries k)))
      (λ h. rw h (absent t k s p h))))
      (λ z. rw (z, g.is) (either c.room
      (in_map t k v s p z)
      (moved (lookup t) (lookup u) k v _ g.holds (caseb (within (length u.array) k)
      (λ d. rw d (at-place u k v g.right d))
      (λ d. rw d (in_map u k v g.right (record { canonical = own; outside = d }) z)))))))))
    where
      either : (b : Bool) {x y : OriginalOutcome} → OriginalSets (lookup t) k v x → OriginalSets (lookup t) k v y → OriginalSets (lookup t) k v (cond b x y)
      either true p q = p
      either false p q = q

  pub original-refuses : (c : Choice) (r : Original) (key v : Words) (e : Refusal) → canonical_key key ≡ Err e → original_set addresses c r key v ≡ original_outcome (refusal_number e) nil r
  unfolding original_set
  original-refuses c r key v e q = rw (original-index key, original-key key, q)

  -- ---- reserve
  pub reserve-is : (c : Choice) (t : Table) → Right t → StandsFor (lookup t) (original_reserve c (original_of addresses t))
  unfolding original_reserve
  reserve-is c t s =
      caseb c.room
      (λ e. rw e (record { table = t; is = refl; right = s; holds = λ j. refl }))
      (λ e. rw e (record {
        table = with_entries t (keep live t.entries);
        is = ap (with_map (original_of addresses t)) (keep-cells addresses has_value live t.entries (λ s p. refl) s.placed);
        right = right-purged t s;
        holds = λ j. purged-lookup t (with_entries t (keep live t.entries)) j s.apart refl refl;
      }))

  -- ---- get
  pub original-get : (t : Table) (key : Words) → original_get addresses (original_of addresses t) key ≡ get_of t key
  unfolding original_get get_of lookup within
  original-get t key =
      rw (original-index key, original-key key)
      (by_key key
      (λ k e. rw (e, find_cell-of addresses t.entries k))
      (λ m e. rw e))
