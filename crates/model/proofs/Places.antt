-- A list of entries at a place: search, write and walk by the key that stands there, and lists made anew from a place on. Assumes nothing.
use mathlib.Core.Path.{◌≡◌, refl, sym, ap, ◌∙◌}
use mathlib.Core.Bool.{true, false, true≢false}
use mathlib.Core.List.{List, [], ◌∷◌}
use Prim.Native.Nat.{ℕ, zero, suc, ◌+◌, ◌-◌, ◌<◌}
use native.Mathlib.Nat.{le_of_suc-le-suc, not-suc-le-zero}
use native.Mathlib.Omega.{arith}
use lib.ListN.{length, get_or, set, drop}
use Rattle.value.specs.declared.Words.{Words}
use Rattle.value.specs.Same.{same, nil}
use Rattle.value.proofs.Cases.{caseb, clash, or_right}
use Rattle.value.proofs.Same.{same-eq, eq-same, ne_same}
use Rattle.key.specs.Canonical.{integer}
use Rattle.model.specs.Entries.{Entry, entry, keys_of, distinct, has, find, put, not_found, first, from}
use Rattle.model.specs.Table.{array_pairs}
use Rattle.model.specs.Growth.{tabulate}

-- ---- at the key of place i
pub has-place : (l : List Entry) (i : ℕ) (k : Words) → i < length l → (get_or l i (entry nil nil)).key ≡ k → has l k ≡ true
has-place [] i k h p = absurd (not-suc-le-zero h)
has-place (s ∷ ss) zero k h p = rw (eq-same s.key k p)
has-place (s ∷ ss) (suc i) k h p = or_right (same s.key k) (has ss k) (has-place ss i k (le_of_suc-le-suc h) p)

-- no place before it has that key
earlier : (s : Entry) (ss : List Entry) (i : ℕ) (k : Words) → has ss s.key ≡ false → i < length ss → (get_or ss i (entry nil nil)).key ≡ k → same s.key k ≡ false
earlier s ss i k d h p = ne_same s.key k (λ q. clash (has-place ss i s.key h (p ∙ sym q)) d)

pub find-place : (l : List Entry) (i : ℕ) (k : Words) → distinct (keys_of l) → i < length l → (get_or l i (entry nil nil)).key ≡ k → find l k ≡ (get_or l i (entry nil nil)).value
find-place [] i k d h p = absurd (not-suc-le-zero h)
find-place (s ∷ ss) zero k d h p = rw (eq-same s.key k p)
find-place (s ∷ ss) (suc i) k d h p = let g = le_of_suc-le-suc h in rw (earlier s ss i k d.0 g p) (find-place ss i k d.1 g p)

pub put-place : (l : List Entry) (i : ℕ) (k v : Words) → distinct (keys_of l) → i < length l → (get_or l i (entry nil nil)).key ≡ k → put l k v ≡ set l i (entry k v)
put-place [] i k v d h p = absurd (not-suc-le-zero h)
put-place (s ∷ ss) zero k v d h p = rw (eq-same s.key k p) (ap {B = List Entry} (λ (x : Words). entry x v ∷ ss) p)
put-place (s ∷ ss) (suc i) k v d h p =
    let g = le_of_suc-le-suc h in rw (earlier s ss i k d.0 g p) (ap {B = List Entry} (λ r. s ∷ r) (put-place ss i k v d.1 g p))

pub from_place : (l : List Entry) (i : ℕ) (k : Words) → distinct (keys_of l) → i < length l → (get_or l i (entry nil nil)).key ≡ k → from l k ≡ first (drop (suc i) l)
from_place [] i k d h p = absurd (not-suc-le-zero h)
from_place (s ∷ ss) zero k d h p = rw (eq-same s.key k p)
from_place (s ∷ ss) (suc i) k d h p = let g = le_of_suc-le-suc h in rw (earlier s ss i k d.0 g p) (from_place ss i k d.1 g p)

-- ---- at a key that no place has
pub has-nowhere : (l : List Entry) (k : Words) → ((i : ℕ) → i < length l → (get_or l i (entry nil nil)).key ≡ k → ⊥) → has l k ≡ false
has-nowhere [] k h = refl
has-nowhere (s ∷ ss) k h =
    caseb (same s.key k)
    (λ e. absurd (h 0 (omega arith) (same-eq s.key k e)))
    (λ e. rw e (has-nowhere ss k (λ i g p. h (suc i) (omega arith) p)))

pub from-nowhere : (l : List Entry) (k : Words) → has l k ≡ false → from l k ≡ not_found
from-nowhere [] k h = refl
from-nowhere (s ∷ ss) k h = caseb (same s.key k) (λ e. absurd (true≢false (rw e at h))) (λ e. rw e (from-nowhere ss k (rw e at h)))

-- ---- a list made anew, from place m on; and the pairs of an array made anew
pub drop-tabulate : {X : Type 0} (m n : ℕ) (f : ℕ → X) (i : ℕ) → drop m (tabulate n f i) ≡ tabulate (n - m) f (i + m)
drop-tabulate zero n f i = let p : n ≡ n - 0 = omega arith in let q : i ≡ i + 0 = omega arith in λ j. tabulate (p j) f (q j)
drop-tabulate (suc m) zero f i = let p : 0 ≡ 0 - suc m = omega arith in ap (λ (x : ℕ). tabulate x f (i + suc m)) p
drop-tabulate (suc m) (suc n) f i =
    let p : n - m ≡ suc n - suc m = omega arith in
    let q : suc i + m ≡ i + suc m = omega arith in
    drop-tabulate m n f (suc i) ∙ (λ j. tabulate (p j) f (q j))

pub array-tabulate : (n : ℕ) (f : ℕ → Words) (i : ℕ) → array_pairs i (tabulate n f i) ≡ tabulate n (λ j. entry (integer (suc j)) (f j)) i
array-tabulate zero f i = refl
array-tabulate (suc n) f i = ap {B = List Entry} (λ r. entry (integer (suc i)) (f i) ∷ r) (array-tabulate n f (suc i))
