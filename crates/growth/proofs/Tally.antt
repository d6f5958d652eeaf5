-- Laws of lists of indices: lists joined, an index or an entry at a time, and how many there can be of a class. Assumes nothing.
use Rattle.std.proofs.Common.{◌≡◌, ℕ, suc, ◌+◌, ◌≤◌, ◌<◌, cond, List, [], ◌∷◌, ◌++◌, length, eqb, refl, sym, zero-add, arith}
use Rattle.std.proofs.lemmas.Bool.Decides.{nat_tests}
use Rattle.value.specs.Same.{is_nil}
use Rattle.value.proofs.Cases.{caseb}
use Rattle.key.specs.Canonical.{array_index}
use Rattle.model.specs.Entries.{Entry}
use Rattle.model.specs.Growth.{with_index, indices, tally}
use Rattle.store.specs.Limits.{class_counts}
use Rattle.growth.specs.Counts.{class_of}
use Rattle.std.specs.Prelude.{Option, Some, None}

-- ---- lists joined
pub tally-append : (k : ℕ) (l m : List ℕ) → tally k (l ++ m) ≡ tally k l + tally k m
tally-append k [] m = sym (zero-add (tally k m))
tally-append k (i ∷ l) m = omega (arith, tally-append k l m)

pub index-append : (x : Option ℕ) (l m : List ℕ) → with_index x (l ++ m) ≡ with_index x l ++ m
index-append (Some i) l m = refl
index-append None l m = refl

pub indices-append : (l m : List Entry) → indices (l ++ m) ≡ indices l ++ indices m
indices-append [] m = refl
indices-append (s ∷ ss) m =
    caseb (is_nil s.value)
    (λ e. rw e (indices-append ss m))
    (λ e. rw (e, indices-append ss m) (index-append (array_index s.key) (indices ss) (indices m)))

-- ---- an index: one of its class, if that has a count
pub tally-index : (x : Option ℕ) (k : ℕ) → k < class_counts → tally k (with_index x []) ≡ cond (eqb (class_of x) k) 1 0
tally-index (Some i) k h = omega arith
tally-index None k h = grind (arith, nat_tests)

-- ---- at most as many of a class as there are indices, and as many of these as entries
pub tally-le : (k : ℕ) (l : List ℕ) → tally k l ≤ length l
tally-le k [] = omega arith
tally-le k (i ∷ l) = grind (arith, nat_tests, tally-le k l)

pub index-le : (x : Option ℕ) (l : List ℕ) → length (with_index x l) ≤ suc (length l)
index-le (Some i) l = omega arith
index-le None l = omega arith

pub indices-le : (es : List Entry) → length (indices es) ≤ length es
indices-le [] = omega arith
indices-le (s ∷ ss) = grind (arith, nat_tests, indices-le ss, index-le (array_index s.key) (indices ss))
