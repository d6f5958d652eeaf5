-- The length that a table answers is a border by the manual (§3.4.7), for every table, and the only one where there is one. Assumes nothing.
use mathlib.Core.Path.{◌≡◌, refl, sym, ap, ◌∙◌}
use mathlib.Core.Bool.{Bool, true, false, not, ◌&&◌}
use mathlib.Core.List.{List, [], ◌∷◌}
use mathlib.Core.Logic.{◌⊎◌, inl, inr}
use Prim.Native.Nat.{ℕ, zero, suc, pred, ◌+◌, ◌-◌, ◌*◌, ◌^◌, ◌/◌, ◌≤◌, ◌<◌, min}
use native.Mathlib.Nat.{not-suc-le-zero, le_antisymm}
use native.Mathlib.Omega.{arith}
use lib.Dec.{eqb, leb, ltb}
use lib.ListN.{length, get_or}
use borrow.Author.Tests.{leb-true, leb-false, ltb-true, ltb-false, eqb-true, eq-eqb, not-true, not-false}
use Rattle.value.specs.Same.{nil, is_nil}
use Rattle.value.proofs.Cases.{caseb, clash, and_left, and_right}
use Rattle.value.proofs.Same.{same_refl}
use Rattle.key.specs.Canonical.{integer, largest}
use Rattle.key.proofs.Own.{canonical-integer}
use Rattle.model.specs.Entries.{Entry, has}
use Rattle.model.specs.Table.{Room, Table, lookup, get_of}
use Rattle.model.specs.Length.{nil_at, halve, double, length_of}
use Rattle.model.specs.WellFormed.{WellFormed}
use Rattle.model.specs.Manual.{Border, OneBorder}
use Rattle.model.proofs.Array.{index-integer, outside-integer, lookup-array, lookup_absent}
use Rattle.model.proofs.Map.{in-range}
use Rattle.model.proofs.Next.{get_key}

-- ---- halving
pub record Halved (is_nil_at : ℕ → Bool) (hi r : ℕ) : Type 0 where
  pub lower : (r ≡ 0) ⊎ (is_nil_at r ≡ false)
  pub upper : is_nil_at (suc r) ≡ true
  pub less : r < hi

pub halve-is : (f : ℕ → Bool) (d lo hi : ℕ) → lo < hi → hi ≤ lo + 2 ^ d → (lo ≡ 0) ⊎ (f lo ≡ false) → f hi ≡ true → Halved f hi (halve f d lo hi)
unfolding halve
halve-is f zero lo hi h g b t = let q : hi ≡ suc lo = omega arith in record { lower = b; upper = rw q at t; less = h }
halve-is f (suc d) lo hi h g b t =
    let mid : ℕ = lo + (hi - lo) / 2 in
    caseb (ltb 1 (hi - lo))
    (λ c. let w : 1 < hi - lo = ltb-true 1 (hi - lo) c in
    rw c (caseb (f mid)
    (λ m. rw m (let r : Halved f mid (halve f d lo mid) = halve-is f d lo mid (omega arith) (omega arith) b m in record { lower = r.lower; upper = r.upper; less = omega (arith, r.less) }))
    (λ m. rw m (halve-is f d mid hi (omega arith) (omega arith) (inr m) t))))
    (λ c. let w : hi - lo ≤ 1 = ltb-false 1 (hi - lo) c in let q : hi ≡ suc lo = omega arith in rw c (record { lower = b; upper = rw q at t; less = h }))

-- halving looks only at numbers between its ends
pub halve-cong : (f g : ℕ → Bool) (d lo hi : ℕ) → ((n : ℕ) → lo < n → n < hi → f n ≡ g n) → halve f d lo hi ≡ halve g d lo hi
unfolding halve
halve-cong f g zero lo hi h = refl
halve-cong f g (suc d) lo hi h =
    let mid : ℕ = lo + (hi - lo) / 2 in
    caseb (ltb 1 (hi - lo))
    (λ c. let w : 1 < hi - lo = ltb-true 1 (hi - lo) c in
    rw (c, h mid (omega arith) (omega arith)) (caseb (g mid)
    (λ m. rw m (halve-cong f g d lo mid (λ n a b. h n a (omega arith))))
    (λ m. rw m (halve-cong f g d mid hi (λ n a b. h n (omega arith) b)))))
    (λ c. rw c)

-- ---- doubling: it stops at a number that is not there, or at the largest integer
pub record Doubled (is_there : ℕ → Bool) (lo hi : ℕ) : Type 0 where
  pub low : lo ≤ hi
  pub high : hi ≤ largest
  pub stops : (is_there hi ≡ false) ⊎ (hi ≡ largest)

pub double-is : (g : ℕ → Bool) (d c hi : ℕ) → c + d ≡ 64 → 1 ≤ hi → hi ≤ largest → (2 ^ c ≤ hi) ⊎ (hi ≡ largest) → Doubled g hi (double g d hi)
unfolding double
double-is g zero c hi q l h (inl p) = let z : c ≡ 64 = omega arith in let w : 2 ^ 64 ≤ hi = rw z at p in absurd (not-suc-le-zero {n = 0} (omega arith))
double-is g zero c hi q l h (inr p) = record { low = omega arith; high = h; stops = inr p }
double-is g (suc d) c hi q l h p =
    caseb (g hi && ltb hi largest)
    (λ b. let x : hi < largest = ltb-true hi largest (and_right (g hi) (ltb hi largest) b) in
    let r : Doubled g (min largest (2 * hi)) (double g d (min largest (2 * hi))) =
    double-is g d (suc c) (min largest (2 * hi)) (omega arith) (omega arith) (omega arith) (next x p) in
    rw b (record { low = omega (arith, r.low); high = r.high; stops = r.stops }))
    (λ b. rw b (record { low = omega arith; high = h; stops = stop b }))
  where
    next : hi < largest → (2 ^ c ≤ hi) ⊎ (hi ≡ largest) → (2 ^ suc c ≤ min largest (2 * hi)) ⊎ (min largest (2 * hi) ≡ largest)
    next x (inl y) = caseb (leb largest (2 * hi)) (λ b. inr (omega (arith, leb-true largest (2 * hi) b))) (λ b. inl (omega (arith, leb-false largest (2 * hi) b)))
    next x (inr y) = absurd (not-suc-le-zero {n = 0} (omega arith))

    stop : (g hi && ltb hi largest) ≡ false → (g hi ≡ false) ⊎ (hi ≡ largest)
    stop b = caseb (g hi) (λ y. inr (omega (arith, ltb-false hi largest (rw y at b)))) (λ y. inl y)

-- ---- the table's values at whole numbers
pub get-integer : (t : Table) (n : ℕ) → get_of t (integer n) ≡ lookup t (integer n)
get-integer t n = get_key t (integer n) (integer n) (canonical-integer n)

-- past the array, a number with no entry is Nil
pub past-array : (t : Table) (n : ℕ) → length t.array ≤ n → has t.entries (integer (suc n)) ≡ false → nil_at t (suc n) ≡ true
past-array t n h e = ap is_nil (lookup_absent t (integer (suc n)) (outside-integer (length t.array) n h) e) ∙ same_refl nil

-- the array's last value, and any other
pub in_array : (t : Table) (n : ℕ) → n < length t.array → n < largest → lookup t (integer (suc n)) ≡ get_or t.array n nil
in_array t n h g = lookup-array t (integer (suc n)) n (index-integer n g) h

-- ---- the length
pub border-of : (t : Table) → length t.array ≤ 2 ^ 62 → Border t (length_of t)
unfolding length_of
border-of t small =
    caseb (leb 1 A && is_nil (get_or t.array (pred A) nil))
    (λ b. rw b (of-halved (omega arith) (halve-is (nil_at t) 64 0 A (leb-true 1 A (and_left (leb 1 A) (is_nil (get_or t.array (pred A) nil)) b)) (omega arith) (inl refl) (at-end b))))
    (λ b. rw b (caseb (eqb (length t.entries) 0)
    (λ c. rw c (of-halved {hi = suc A} (omega arith) (record { lower = full b; upper = past-array t A (le-self A) (none t.entries (eqb-true (length t.entries) 0 c)); less = le-self (suc A) })))
    (λ c. rw c (caseb (eqb hi largest && not (nil_at t hi))
    (λ d. rw d (record {
      range = dd.high;
      lower = inr (ap is_nil (get-integer t hi) ∙ not-true (nil_at t hi) (and_right (eqb hi largest) (not (nil_at t hi)) d));
      upper = inl (eqb-true hi largest (and_left (eqb hi largest) (not (nil_at t hi)) d));
    }))
    (λ d. rw d (of-halved (omega (arith, dd.high)) (halve-is (nil_at t) 64 A hi (omega (arith, dd.low)) (omega (arith, dd.high)) (full b) (nil-there d dd.stops))))))))
  where
    A : ℕ
    A = length t.array

    hi : ℕ
    hi = double (λ n. has t.entries (integer n)) 64 (A + 1)

    dd : Doubled (λ n. has t.entries (integer n)) (A + 1) hi
    dd = double-is (λ n. has t.entries (integer n)) 64 0 (A + 1) (omega arith) (omega arith) (omega arith) (inl (omega arith))

    le-self : (n : ℕ) → n ≤ n
    le-self n = omega arith

    none : (l : List Entry) → length l ≡ 0 → has l (integer (suc A)) ≡ false
    none [] q = refl
    none (x ∷ l) q = absurd (not-suc-le-zero {n = 0} (omega arith))

    last-value : (n : ℕ) → n ≡ A → 1 ≤ n → lookup t (integer n) ≡ get_or t.array (pred n) nil
    last-value zero q h = absurd (not-suc-le-zero h)
    last-value (suc n) q h = in_array t n (omega arith) (omega arith)

    at-end : (leb 1 A && is_nil (get_or t.array (pred A) nil)) ≡ true → nil_at t A ≡ true
    at-end b = ap is_nil (last-value A refl (leb-true 1 A (and_left (leb 1 A) (is_nil (get_or t.array (pred A) nil)) b))) ∙ and_right (leb 1 A) (is_nil (get_or t.array (pred A) nil)) b

    full : (leb 1 A && is_nil (get_or t.array (pred A) nil)) ≡ false → (A ≡ 0) ⊎ (nil_at t A ≡ false)
    full b =
        caseb (leb 1 A)
        (λ x. inr (ap is_nil (last-value A refl (leb-true 1 A x)) ∙ rw x at b))
        (λ x. inl (omega (arith, leb-false 1 A x)))

    past-hi : (n : ℕ) → n ≡ hi → has t.entries (integer n) ≡ false → nil_at t n ≡ true
    past-hi zero q e = absurd (not-suc-le-zero {n = 0} (omega (arith, dd.low)))
    past-hi (suc n) q e = past-array t n (omega (arith, dd.low)) e

    nil-there : (eqb hi largest && not (nil_at t hi)) ≡ false → (has t.entries (integer hi) ≡ false) ⊎ (hi ≡ largest) → nil_at t hi ≡ true
    nil-there d (inl e) = past-hi hi refl e
    nil-there d (inr e) = not-false (nil_at t hi) (rw (eq-eqb hi largest e) at d)

    of-halved : {hi r : ℕ} → hi ≤ suc largest → Halved (nil_at t) hi r → Border t r
    of-halved {hi} {r} h x = record { range = omega (arith, x.less); lower = low x.lower; upper = inr (ap is_nil (get-integer t (suc r)) ∙ x.upper) }
      where
        low : (r ≡ 0) ⊎ (nil_at t r ≡ false) → (r ≡ 0) ⊎ (is_nil (get_of t (integer r)) ≡ false)
        low (inl q) = inl q
        low (inr q) = inr (ap is_nil (get-integer t r) ∙ q)

pub border : {room : Room} (t : Table) → WellFormed room t → Border t (length_of t)
border t w = border-of t (in-range w)

-- where a table has one border only, that is the answer
pub only-border : {room : Room} (t : Table) (n : ℕ) → WellFormed room t → OneBorder t → Border t n → length_of t ≡ n
unfolding OneBorder
only-border t n w one b = one (length_of t) n (border t w) b

-- a sequence, whatever other keys it has: values at 1 to n and at no number after them
pub one-border : (t : Table) (n : ℕ) → n ≤ largest → ((m : ℕ) → 0 < m → m ≤ n → is_nil (get_of t (integer m)) ≡ false)
    → ((m : ℕ) → n < m → m ≤ largest → is_nil (get_of t (integer m)) ≡ true) → OneBorder t
unfolding OneBorder
one-border t n h filled bare a b p q = at a p ∙ sym (at b q)
  where
    not-above : (m : ℕ) → Border t m → n < m → (m ≡ 0) ⊎ (is_nil (get_of t (integer m)) ≡ false) → ⊥
    not-above m p g (inl z) = omega arith
    not-above m p g (inr e) = clash (bare m g p.range) e

    not-below : (m : ℕ) → m < n → (m ≡ largest) ⊎ (is_nil (get_of t (integer (suc m))) ≡ true) → ⊥
    not-below m g (inl z) = omega arith
    not-below m g (inr e) = clash e (filled (suc m) (omega arith) (omega arith))

    at : (m : ℕ) → Border t m → m ≡ n
    at m p =
        le_antisymm
        (caseb (ltb n m) (λ e. absurd (not-above m p (ltb-true n m e) p.lower)) (λ e. ltb-false n m e))
        (caseb (ltb m n) (λ e. absurd (not-below m (ltb-true m n e) p.upper)) (λ e. ltb-false m n e))
