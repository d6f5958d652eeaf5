-- The array's values, by ranges of a class: which places a class has, and what a range counts. Assumes nothing.
use Rattle.std.proofs.Common.{◌≡◌, ℕ, zero, suc, ◌+◌, ◌-◌, ◌/◌, ◌^◌, ◌≤◌, ◌<◌, min, cond, List, [], ◌∷◌, get_or, set, ap, ◌∙◌, inl, inr, eqb, arith, add-zero, add-one}
use Rattle.std.proofs.Math.Nat.{pow-succ'}
use Rattle.std.proofs.Math.Pow.{pow_mono}
use Rattle.std.proofs.lemmas.Bool.Decides.{nat_tests}
use lib.Ieee.{size}
use lib.Ieee.Digits.{size-lt, size-le}
use Rattle.std.proofs.lemmas.Bool.{cases_lt}
use Rattle.value.specs.Same.{is_nil}
use Rattle.value.proofs.Cases.{caseb}
use Rattle.lent.specs.Lent.{value_at}
use Rattle.model.specs.Table.{array_pairs}
use Rattle.model.specs.Growth.{indices, tally, tabulate}
use Rattle.model.proofs.Places.{array-tabulate}
use Rattle.model.proofs.Array.{index-integer}
use Rattle.store.specs.Limits.{array_limit, class_counts}
use Rattle.store.specs.Written.{pair_at}
use Rattle.growth.specs.Counts.{Counted, count_of_values}
use Rattle.growth.proofs.Tally.{tally-append, tally-index}
use Rattle.growth.proofs.Steps.{counted-add}
use Rattle.growth.proofs.Turns.{firsts, firsts-next}
use Rattle.std.specs.Prelude.{Some}

-- ---- how many of the first A places have a class below this one: half of a power of two, or all
abbrev pub places_below : ℕ → ℕ → ℕ
places_below class A = min (2 ^ class / 2) A

pub half : (class : ℕ) → 2 ^ (class + 1) / 2 ≡ 2 ^ class
half class = rw (add-one class, pow-succ' 2 class) (omega arith)

place-class : (class A i : ℕ) → places_below class A ≤ i → i < places_below (class + 1) A → size i ≡ class
place-class class A i a b =
    let most : size i ≤ class = size-le i class (omega (arith, half class)) in
    elim (cases_lt (size i) class) [
      | inl l ↦ let m : 2 ^ suc (size i) ≤ 2 ^ class = pow_mono l in absurd (omega (arith, size-lt i, pow-succ' 2 (size i)))
      | inr g ↦ omega arith
    ]

-- ---- how many values a range has
module _ (ws : List ℕ) (from : ℕ) where
  pub values_none : count_of_values ws from (from - from) ≡ 0
  unfolding count_of_values
  values_none = let z : from - from ≡ 0 = omega arith in rw z

  pub values_next : (i : ℕ) → from ≤ i → count_of_values ws from (i + 1 - from) ≡ count_of_values ws from (i - from) + cond (is_nil (value_at ws i)) 0 1
  unfolding count_of_values
  values_next i h =
      let d : i + 1 - from ≡ suc (i - from) = omega arith in
      let e : from + (i - from) ≡ i = omega arith in
      rw (d, e)

-- ---- a range counts, for its class and no other, the values that it has
module _ (ws : List ℕ) where
  -- whether place i has a value
  abbrev here : ℕ → ℕ
  here i = cond (is_nil (value_at ws i)) 0 1

  place-tally : (i k : ℕ) → i < array_limit → k < class_counts → tally k (indices (pair_at ws i ∷ [])) ≡ cond (eqb (size i) k) (here i) 0
  place-tally i k h lt =
      caseb (is_nil (value_at ws i))
      (λ e. rw e (grind (arith, nat_tests)))
      (λ e. rw (e, index-integer i (omega arith)) (tally-index (Some i) k lt))

  range-tally : (class from d k : ℕ) → k < class_counts → ((i : ℕ) → from ≤ i → i < from + d → (i < array_limit) × (size i ≡ class))
      → tally k (firsts (pair_at ws) (from + d)) ≡ tally k (firsts (pair_at ws) from) + cond (eqb class k) (count_of_values ws from d) 0
  unfolding count_of_values
  range-tally class from zero k lt h = rw (add-zero from) (grind (arith, nat_tests))
  range-tally class from (suc d) k lt h =
      let i : ℕ = from + d in
      let e : from + suc d ≡ suc i = omega arith in
      let (small, q) = h i (omega arith) (omega arith) in
      let next : tally k (firsts (pair_at ws) (suc i)) ≡ tally k (firsts (pair_at ws) i) + tally k (indices (pair_at ws i ∷ [])) =
      ap (tally k) (firsts-next (pair_at ws) i) ∙ tally-append k (firsts (pair_at ws) i) (indices (pair_at ws i ∷ []))
      in
      let this : tally k (indices (pair_at ws i ∷ [])) ≡ cond (eqb class k) (here i) 0 = rw q at (place-tally i k small lt) in
      rw e (grind (arith, nat_tests, range-tally class from d k lt (λ j a b. h j a (omega arith)), next, this))

  -- the turn of a class
  pub range-turn : {c c' : List ℕ} (class A from to n : ℕ) → class < class_counts → A ≤ array_limit → from ≡ places_below class A → to ≡ places_below (class + 1) A
      → Counted (firsts (pair_at ws) from) c c' → n ≡ count_of_values ws from (to - from) → Counted (firsts (pair_at ws) to) c (set c' class (get_or c' class 0 + n))
  range-turn class A from to n h g p q s e =
      let d : from + (to - from) ≡ to = omega (arith, half class) in
      counted-add class n s h
      (λ k lt. rw (← d, e) (range-tally class from (to - from) k lt (λ i a b. (omega (arith, half class), place-class class A i (omega arith) (omega arith)))))

  -- all of them
  pub range-all : {c c' : List ℕ} {A from : ℕ} → from ≡ A → Counted (firsts (pair_at ws) from) c c' → Counted (indices (array_pairs 0 (tabulate A (value_at ws) 0))) c c'
  range-all {A = A} e s = rw (array-tabulate A (value_at ws) 0, ← e) s
