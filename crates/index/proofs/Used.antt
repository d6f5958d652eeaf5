-- How many words of a list are not empty: what a store changes in the count, and what a count says of the words. Assumes nothing.
use Rattle.std.proofs.Common.{◌≡◌, ℕ, zero, suc, ◌+◌, ◌<◌, true, false, List, [], ◌∷◌, length, get_or, set, replicate, refl, ap, suc-le-suc, zero-le, le_of_suc-le-suc, not-suc-le-zero, arith}
use Rattle.value.proofs.Cases.{clash}
use Rattle.index.specs.Index.{is_empty, used}

pub not-empty : (w : ℕ) → (w ≡ 0 → ⊥) → is_empty w ≡ false
not-empty zero h = absurd (h refl)
not-empty (suc w) h = refl

pub is-empty : (w : ℕ) → is_empty w ≡ true → w ≡ 0
is-empty zero e = refl
is-empty (suc w) e = clash e refl

pub used-zeros : (n : ℕ) → used (replicate n 0) ≡ 0
used-zeros zero = refl
used-zeros (suc n) = used-zeros n

pub used-set : (l : List ℕ) (k v : ℕ) → k < length l → get_or l k 0 ≡ 0 → used (set l k (suc v)) ≡ suc (used l)
used-set [] k v h z = absurd (not-suc-le-zero h)
used-set (x ∷ l) zero v h z = rw z
used-set (zero ∷ l) (suc k) v h z = used-set l k v (le_of_suc-le-suc h) z
used-set (suc w ∷ l) (suc k) v h z = ap suc (used-set l k v (le_of_suc-le-suc h) z)

pub used-clear : (l : List ℕ) (k w : ℕ) → get_or l k 0 ≡ suc w → suc (used (set l k 0)) ≡ used l
used-clear [] k w z = absurd (omega arith)
used-clear (x ∷ l) zero w z = rw z
used-clear (zero ∷ l) (suc k) w z = used-clear l k w z
used-clear (suc x ∷ l) (suc k) w z = ap suc (used-clear l k w z)

pub none-used : (l : List ℕ) → used l ≡ 0 → l ≡ replicate (length l) 0
none-used [] e = refl
none-used (zero ∷ l) e = ap (λ (t : List ℕ). 0 ∷ t) (none-used l e)
none-used (suc w ∷ l) e = absurd (omega arith)

pub some-empty : (l : List ℕ) → used l < length l → (k : ℕ) × (k < length l) × (get_or l k 0 ≡ 0)
some-empty [] h = absurd (not-suc-le-zero h)
some-empty (zero ∷ l) h = (zero, suc-le-suc zero-le, refl)
some-empty (suc w ∷ l) h = let (k, p, z) = some-empty l (le_of_suc-le-suc h) in (suc k, suc-le-suc p, z)

pub inside : (l : List ℕ) (k w : ℕ) → get_or l k 0 ≡ suc w → k < length l
inside [] k w e = absurd (omega arith)
inside (x ∷ l) zero w e = suc-le-suc zero-le
inside (x ∷ l) (suc k) w e = suc-le-suc (inside l k w e)
