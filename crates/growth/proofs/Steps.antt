-- Steps of counting: nothing counted, n of one class, one step after another, and how large counts can become. Assumes nothing.
use Rattle.std.proofs.Common.{◌≡◌, ℕ, ◌+◌, ◌≤◌, ◌<◌, cond, List, [], ◌++◌, length, get_or, set, eqb, ◌∙◌, arith, length-set}
use Rattle.std.proofs.Math.ListN.{get_or-eq_default}
use Rattle.std.proofs.lemmas.Bool.Decides.{nat_tests}
use Rattle.std.proofs.lemmas.Grind.{common_steps}
use Rattle.model.specs.Growth.{with_index, tally}
use Rattle.store.specs.Limits.{class_counts}
use Rattle.growth.specs.Counts.{class_of, Counted, AtMost}
use Rattle.growth.proofs.Tally.{tally-append, tally-index, tally-le}
use Rattle.std.specs.Prelude.{Option}

pub counted_none : (c : List ℕ) → length c ≡ class_counts → Counted [] c c
counted_none c h = record { long = h; each = λ k lt. omega arith }

-- n more of class j
pub counted-add : {l m c c' : List ℕ} (j n : ℕ) → Counted l c c' → j < class_counts → ((k : ℕ) → k < class_counts → tally k m ≡ tally k l + cond (eqb j k) n 0)
    → Counted m c (set c' j (get_or c' j 0 + n))
counted-add {c' = c'} j n s lt z =
    record {
      long = length-set c' j (get_or c' j 0 + n) ∙ s.long;
      each = λ k b. grind (arith, common_steps, nat_tests, s.long, s.each k b, z k b);
    }

-- a key: one of its index's class, or none where that has no count
pub key-counted : (x : Option ℕ) {c : List ℕ} {j : ℕ} → length c ≡ class_counts → (class_of x < class_counts) × (j ≡ class_of x)
    → Counted (with_index x []) c (set c j (get_or c j 0 + 1))
key-counted x {j = j} h q = counted-add j 1 (counted_none _ h) (omega (arith, q.0, q.1)) (λ k b. grind (arith, nat_tests, tally-index x k b, q.1))

pub key_left : (x : Option ℕ) {c : List ℕ} → length c ≡ class_counts → ¬ (class_of x < class_counts) → Counted (with_index x []) c c
key_left x h q = record { long = h; each = λ k b. grind (arith, nat_tests, tally-index x k b, q) }

-- one step after another
pub counted-then : (l m : List ℕ) {c c' c'' : List ℕ} → Counted l c c' → Counted m c' c'' → Counted (l ++ m) c c''
counted-then l m s t = record { long = t.long; each = λ k h. omega (arith, s.each k h, t.each k h, tally-append k l m) }

-- as many more of each class as there are indices, at most
pub counted-most : {l c c' : List ℕ} (n m : ℕ) → AtMost n c → Counted l c c' → length l ≤ m → AtMost (n + m) c'
counted-most {l} {c} {c'} n m a s h =
    record {
      long = s.long;
      each = λ k. grind (arith, s.long, s.each k, a.each k, tally-le k l, get_or-eq_default {A = ℕ} c' 0 {n = k});
    }
