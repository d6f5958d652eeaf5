-- The tables that the original's stand for: the keys of their entries are canonical, distinct and outside the array, whatever its length. It
-- holds of a fresh one, and is kept by every write and growth and by a change of order. Assumes nothing.
use mathlib.Core.Path.{◌≡◌}
use mathlib.Core.Bool.{Bool, true, false, not}
use mathlib.Core.List.{List, [], ◌∷◌}
use Prim.Native.Nat.{ℕ, ◌^◌, ◌≤◌, max}
use native.Mathlib.Omega.{arith}
use lib.ListN.{length, length-set}
use borrow.Author.Tests.{not-true}
use Rattle.value.specs.declared.Words.{Words}
use Rattle.value.proofs.Cases.{and_right}
use Rattle.key.specs.Canonical.{largest, canonical_key}
use Rattle.model.specs.Entries.{Entry, entry, keys_of, distinct, has, keep, live, Each}
use Rattle.model.specs.Table.{Table, fresh, within, place_of, lookup}
use Rattle.model.specs.Growth.{stays, rehashed}
use Rattle.model.specs.Calls.{write_array, write_entry, append}
use Rattle.model.proofs.Entries.{put-keys, keys-append, distinct_snoc, distinct-keep, each_append, each_keep, each-put, each-key}
use Rattle.model.proofs.Map.{rehashed-length}
use Rattle.original.specs.Runs.{Shuffled}
use Rattle.original.proofs.Order.{shuffled-each, shuffled-apart, shuffled-find}
use Rattle.std.specs.Prelude.{Ok}

-- a key that the map may have beside an array of A values
pub record Placed (A : ℕ) (k : Words) : Type 0 where
  pub canonical : canonical_key k ≡ Ok k
  pub outside : within A k ≡ false

abbrev pub PlacedEntry : ℕ → Entry → Type 0
PlacedEntry A s = Placed A s.key

pub record Right (t : Table) : Type 0 where
  pub in_range : length t.array ≤ 2 ^ 62
  pub placed : Each (PlacedEntry (length t.array)) t.entries
  pub apart : distinct (keys_of t.entries)

abbrev pub with_entries : Table → List Entry → Table
with_entries t l = record { array = t.array; entries = l; allowance = t.allowance }

pub right-fresh : Right fresh
right-fresh = record { in_range = omega arith; placed = tt; apart = tt }

module _ (t : Table) (s : Right t) where
  abbrev A : ℕ
  A = length t.array

  pub right-numbered : A ≤ largest
  right-numbered = omega (arith, s.in_range)

  -- a key that has an entry
  pub there : (k : Words) → has t.entries k ≡ true → Placed A k
  there k h = each-key (Placed A) (PlacedEntry A) t.entries (λ x p. p) s.placed k h

  pub right-array : (k v : Words) → Right (write_array t k v)
  right-array k v =
      let len : length (write_array t k v).array ≡ A = length-set t.array (place_of k) v in
      record { in_range = rw len s.in_range; placed = rw len s.placed; apart = s.apart }

  pub right-write : (k v : Words) → Right (write_entry t k v)
  right-write k v =
      record {
        in_range = s.in_range;
        placed = each-put (PlacedEntry A) t.entries k v (λ x p. p) s.placed;
        apart = rw (put-keys t.entries k v) s.apart;
      }

  pub right-append : (k v : Words) → Placed A k → has t.entries k ≡ false → Right (append t k v 0)
  right-append k v p n =
      record {
        in_range = s.in_range;
        placed = each_append (PlacedEntry A) t.entries (entry k v ∷ []) s.placed (p, tt);
        apart = rw (keys-append t.entries (entry k v ∷ [])) (distinct_snoc (keys_of t.entries) k s.apart n);
      }

  -- ---- what is kept of the entries
  right-keep : (vs : List Words) (q : Entry → Bool) (M : ℕ) → length vs ≤ 2 ^ 62 → ((x : Entry) → q x ≡ true → Placed A x.key → within (length vs) x.key ≡ false)
      → Right (record { array = vs; entries = keep q t.entries; allowance = M })
  right-keep vs q M h g =
      record {
        in_range = h;
        placed = each_keep (PlacedEntry A) (PlacedEntry (length vs)) q t.entries (λ x e a. record { canonical = a.canonical; outside = g x e a }) s.placed;
        apart = distinct-keep q t.entries s.apart;
      }

  pub right-purged : Right (with_entries t (keep live t.entries))
  right-purged = right-keep t.array live t.allowance s.in_range (λ x e p. p.outside)

  pub right-rehashed : (size : ℕ) → size ≤ 2 ^ 62 → Right (rehashed t size)
  unfolding rehashed
  right-rehashed size h =
      let len : length (rehashed t size).array ≡ max A size = rehashed-length t size in
      right-keep (rehashed t size).array (stays (max A size)) t.allowance (omega (arith, s.in_range))
      (λ x e p. rw len (unfold stays in not-true (within (max A size) x.key) (and_right (live x) (not (within (max A size) x.key)) e)))

  -- ---- the order of the entries
  pub right-shuffled : {m : List Entry} → Shuffled t.entries m → Right (with_entries t m)
  right-shuffled f = record { in_range = s.in_range; placed = shuffled-each (PlacedEntry A) f s.placed; apart = shuffled-apart f s.apart }

  pub shuffled-lookup : {m : List Entry} → Shuffled t.entries m → (j : Words) → lookup (with_entries t m) j ≡ lookup t j
  unfolding lookup
  shuffled-lookup f j = rw (shuffled-find f s.apart j)
