-- The size S of a grown array (01, 'Growth', steps 1 and 2): the classes 0 to c together count the candidates below 2 ^ c, and S is the largest
-- power of two, at most a, with more than half of its places among the candidates; 0 if none. Assumes nothing.
use mathlib.Core.Path.{◌≡◌, refl, sym, subst, ◌∙◌}
use mathlib.Core.Bool.{Bool, cond, ◌&&◌}
use mathlib.Core.List.{List, [], ◌∷◌}
use mathlib.Core.Logic.{◌⊎◌, inl, inr}
use Prim.Native.Nat.{ℕ, zero, suc, ◌+◌, ◌/◌, ◌^◌, ◌≤◌, ◌<◌}
use native.Mathlib.Nat.{not-suc-le-zero}
use native.Mathlib.Omega.{arith}
use lib.Dec.{eqb, leb, ltb}
use lib.Pow.{pow_mono}
use lib.Ieee.{size}
use lib.Ieee.Digits.{size-lt, size-le as digits_le}
use borrow.Author.Tests.{eqb-true, eqb-false, leb-true, leb-false, ltb-true, ltb-false, le-leb, lt-leb, lt-ltb, eq-eqb, ne_eqb}
use Rattle.value.specs.declared.Words.{Words}
use Rattle.value.proofs.Cases.{caseb, clash, and_left, and_right, iff}
use Rattle.model.specs.Table.{Room, Table}
use Rattle.model.specs.Growth.{candidates, count_below, tally_to, Passes, best, optimal_size}
use Rattle.model.specs.WellFormed.{Fair, ZeroOrPower}

-- ---- class counts: a number is below 2 ^ c exactly when its class is at most c
class-below : (c i : ℕ) → leb (size i) c ≡ ltb i (2 ^ c)
class-below c i =
    iff (leb (size i) c) (ltb i (2 ^ c))
    (λ e. lt-ltb i (2 ^ c) (far (size i) (size-lt i) (pow_mono (leb-true (size i) c e))))
    (λ e. le-leb (size i) c (digits_le i c (ltb-true i (2 ^ c) e)))
  where
    far : (z : ℕ) → i < 2 ^ z → 2 ^ z ≤ 2 ^ c → i < 2 ^ c
    far z a b = omega arith

-- the classes up to c and the next one
add-class : (c z : ℕ) → cond (leb z c) 1 0 + cond (eqb z (suc c)) 1 0 ≡ cond (leb z (suc c)) 1 0
add-class c z =
    caseb (leb z c)
    (λ x. let l : z ≤ c = leb-true z c x in rw (x, ne_eqb z (suc c) (λ q. not-suc-le-zero {n = 0} (omega arith)), le-leb z (suc c) (omega arith)) (omega arith))
    (λ x. let l : c < z = leb-false z c x in caseb (eqb z (suc c))
    (λ y. let q : z ≡ suc c = eqb-true z (suc c) y in rw (x, y, le-leb z (suc c) (omega arith)) (omega arith))
    (λ y. let q : z ≡ suc c → ⊥ = eqb-false z (suc c) y in rw (x, y, lt-leb z (suc c) (omega arith)) (omega arith)))

first-class : (z : ℕ) → eqb z 0 ≡ leb z 0
first-class z = iff (eqb z 0) (leb z 0) (λ e. le-leb z 0 (omega (arith, eqb-true z 0 e))) (λ e. eq-eqb z 0 (omega (arith, leb-true z 0 e)))

tally_to-cons : (i : ℕ) (l : List ℕ) (c : ℕ) → tally_to c (i ∷ l) ≡ cond (leb (size i) c) 1 0 + tally_to c l
tally_to-cons i l zero = rw (first-class (size i))
tally_to-cons i l (suc c) = omega (arith, tally_to-cons i l c, add-class c (size i))

pub classes : (l : List ℕ) (c : ℕ) → tally_to c l ≡ count_below (2 ^ c) l
classes [] c = empty c
  where
    empty : (c : ℕ) → tally_to c [] ≡ 0
    empty zero = refl
    empty (suc c) = omega (arith, empty c)
classes (i ∷ l) c = tally_to-cons i l c ∙ rw (class-below c i, classes l c)

-- ---- S: 0, or a power of two that passes, and no other below 2 ^ n that passes is larger
best-is : (count : ℕ → ℕ) (a n : ℕ) → (best count a n ≡ 0) ⊎ ((i : ℕ) × (best count a n ≡ 2 ^ i) × Passes count a (2 ^ i))
unfolding best
best-is count a zero = inl refl
best-is count a (suc i) =
    let fits : Bool = leb (2 ^ i) a in
    let enough : Bool = ltb (2 ^ i / 2) (count (2 ^ i)) in
    caseb (fits && enough)
    (λ e. rw e (inr (i, refl, record { fits = leb-true (2 ^ i) a (and_left fits enough e); enough = ltb-true (2 ^ i / 2) (count (2 ^ i)) (and_right fits enough e) })))
    (λ e. rw e (best-is count a i))

best-largest : (count : ℕ → ℕ) (a n j : ℕ) → j < n → Passes count a (2 ^ j) → 2 ^ j ≤ best count a n
unfolding best
best-largest count a zero j h p = absurd (not-suc-le-zero h)
best-largest count a (suc i) j h p =
    caseb (leb (2 ^ i) a && ltb (2 ^ i / 2) (count (2 ^ i)))
    (λ e. rw e (pow_mono (omega arith)))
    (λ e. rw e (caseb (eqb j i)
    (λ q. clash (rw (le-leb (2 ^ j) a p.fits, lt-ltb (2 ^ j / 2) (count (2 ^ j)) p.enough)) (rw (sym (eqb-true j i q)) at e))
    (λ q. let n : j ≡ i → ⊥ = eqb-false j i q in best-largest count a i j (omega arith) p)))

module _ (room : Room) (t : Table) (k : Words) where
  abbrev below : ℕ → ℕ
  below S = count_below S (candidates t k)

  pub size_is : (optimal_size room t k ≡ 0) ⊎ ((i : ℕ) × (optimal_size room t k ≡ 2 ^ i) × Passes below room.array_room (2 ^ i))
  unfolding optimal_size
  size_is = best-is below room.array_room room.classes

  pub size-largest : Fair room → (j : ℕ) → Passes below room.array_room (2 ^ j) → 2 ^ j ≤ optimal_size room t k
  unfolding optimal_size
  size-largest f j p = best-largest below room.array_room room.classes j (exponent j room.classes (omega (arith, p.fits, f.counted))) p
    where
      exponent : (j n : ℕ) → 2 ^ j < 2 ^ n → j < n
      exponent j n h = caseb (ltb j n) (λ e. ltb-true j n e) (λ e. let l : 2 ^ n ≤ 2 ^ j = pow_mono (omega (arith, ltb-false j n e)) in absurd (not-suc-le-zero {n = 0} (omega arith)))

  pub size-le : optimal_size room t k ≤ room.array_room
  size-le = elim size_is [ inl e ↦ omega arith | inr r ↦ subst (λ (S : ℕ). S ≤ room.array_room) (sym r.1) r.2.fits ]

  pub size-power : ZeroOrPower (optimal_size room t k)
  size-power = elim size_is [ inl e ↦ inl e | inr r ↦ inr (r.0, r.1) ]
