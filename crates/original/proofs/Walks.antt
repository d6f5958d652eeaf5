-- A walk of the original's by `next` lists the pairs of the table that it stands for, so after the same calls the two walks list the same
-- pairs, each once, whatever their order. Assumes nothing.
use mathlib.Core.Path.{◌≡◌, refl, sym, ap, ◌∙◌}
use mathlib.Core.Bool.{true, false, not}
use mathlib.Core.List.{List, [], ◌∷◌, ◌++◌}
use Prim.Native.Nat.{suc}
use native.Mathlib.Omega.{arith}
use lib.Dec.{eqb}
use lib.ListN.{length, drop}
use Rattle.value.specs.declared.Words.{Words}
use Rattle.value.specs.Same.{nil, is_nil}
use Rattle.value.proofs.Cases.{caseb, never}
use Rattle.key.specs.Canonical.{integer, canonical_key}
use Rattle.key.proofs.Own.{canonical-integer}
use Rattle.key.proofs.Original.{original-key, original-index}
use Rattle.model.specs.Entries.{Entry, keys_of, distinct, has, keep, live, first, from}
use Rattle.model.specs.Table.{Table, within, array_pairs, pairs, lookup}
use Rattle.model.specs.Manual.{Lists, PairsOf}
use Rattle.model.proofs.Array.{Inside, inside, has-array-within, key-of-pairs, find-pairs, distinct-pairs}
use Rattle.model.proofs.Next.{from-array, from-append-not, lists, live-pairs}
use Rattle.original.specs.Original.{Addresses, first_cell, from_cell, first_pair, original_next}
use Rattle.original.specs.Agreement.{SamePairs}
use Rattle.original.proofs.Cells.{cells_of, original_of, matches-cell}
use Rattle.original.proofs.Right.{Right, there, right-numbered}
use Rattle.std.specs.Prelude.{Ok}

not-nil : (k : Words) → canonical_key k ≡ Ok k → eqb k.kind 0 ≡ false
unfolding canonical_key
not-nil k c = caseb (eqb k.kind 0) (λ e. let q = rw e at c in never (cc)) (λ e. e)

module _ (addresses : Addresses) where
  -- ---- the map
  first_cell-of : (l : List Entry) → first_cell (cells_of addresses l) ≡ first l
  first_cell-of [] = refl
  first_cell-of (s ∷ ss) = caseb (is_nil s.value) (λ e. rw (e, first_cell-of ss)) (λ e. rw e)

  first_pair-of : (ss l : List Entry) → first_pair ss (cells_of addresses l) ≡ first (ss ++ l)
  first_pair-of [] l = first_cell-of l
  first_pair-of (s ∷ ss) l = rw (first_pair-of ss l)

  from_cell-of : (l : List Entry) (k : Words) → from_cell addresses (cells_of addresses l) k ≡ from l k
  from_cell-of [] k = refl
  from_cell-of (s ∷ ss) k = rw (matches-cell addresses s k, first_cell-of ss, from_cell-of ss k)

  -- ---- next, through all pairs of the table
  original-first : (t : Table) → original_next addresses (original_of addresses t) nil ≡ first (pairs t)
  unfolding original_next canonical_key pairs
  original-first t = rw (original-index nil) (first_pair-of (array_pairs 0 t.array) t.entries)

  original-from : (t : Table) (k : Words) → Right t → canonical_key k ≡ Ok k → original_next addresses (original_of addresses t) k ≡ from (pairs t) k
  unfolding original_next pairs within
  original-from t k s c =
      rw (original-index k, original-key k, c)
      (caseb (within (length t.array) k)
      (λ b. let x : Inside (length t.array) k = inside (length t.array) k b in
      rw (b, x.index) (first_pair-of (drop (suc x.i) (array_pairs 0 t.array)) t.entries
      ∙ sym (from-array t.array 0 x.i k t.entries (x.is ∙ ap integer (omega arith)) x.i<)))
      (λ b. rw (b, not-nil k c) (from_cell-of t.entries k
      ∙ sym (from-append-not (array_pairs 0 t.array) t.entries k (has-array-within t.array k (right-numbered t s) ∙ b)))))

  pub original-lists : (t : Table) → Right t → Lists (original_next addresses (original_of addresses t)) nil (keep live (pairs t)) × PairsOf (lookup t) (keep live (pairs t))
  original-lists t s = (
    lists (original_next addresses (original_of addresses t)) (pairs t) once (λ k h. original-from t k s (key k h)) (original-first t),
    live-pairs (lookup t) (pairs t) once (λ k. find-pairs t k (right-numbered t s)),
  )
    where
      once : distinct (keys_of (pairs t))
      once = distinct-pairs t (right-numbered t s) s.apart (λ k h. (there t s k h).outside)

      key : (k : Words) → has (pairs t) k ≡ true → canonical_key k ≡ Ok k
      key = key-of-pairs (λ x. canonical_key x ≡ Ok x) t (right-numbered t s) canonical-integer (λ x e. (there t s x e).canonical)

-- ---- two maps with the same values have the same pairs
pub same-pairs : (m n : Words → Words) (k l : List Entry) → ((j : Words) → m j ≡ n j) → PairsOf m k → PairsOf n l → SamePairs k l
same-pairs m n k l h p q =
    record {
      once_here = p.once;
      once_there = q.once;
      keys = λ j. p.keys j ∙ ap (λ (v : Words). not (is_nil v)) (h j) ∙ sym (q.keys j);
      values = λ j. p.values j ∙ h j ∙ sym (q.values j);
    }
