-- Keys against the manual (§2.1, §3.4.3, §3.4.4): two values are one key exactly when raw equality joins them, and a float key is
-- an integer exactly when it has an integer's value; the only exception is the Number 2 ^ 63, which is one key with the largest Integer. Assumes nothing.
use mathlib.Core.Path.{◌≡◌, refl, sym, ap, ap₂, ◌∙◌, subst}
use mathlib.Core.Bool.{Bool, true, false, ◌&&◌, ◌||◌, beq, and_self}
use mathlib.Core.Logic.{◌⊎◌, inl, inr}
use Prim.Native.Nat.{ℕ, ◌-◌, ◌*◌, ◌/◌, ◌%◌, ◌^◌, ◌≤◌, ◌<◌}
use native.Mathlib.Nat.{mul-one, zero-mul, div-add-mod', eq_of_mul-eq-mul_right, mul_right_comm, zero-lt-suc}
use native.Mathlib.Omega.{arith}
use borrow.Author.Tests.{eq-eqb, ne_eqb, eqb-true, leb-true, leb-false}
use lib.Dec.{T, eqb, leb, lit≤}
use lib.IntN.{ℤ, pos}
use lib.Ieee.{Float, nan, inf, fin, binary64, up, down, size, span, climb, eq, ne, level, fits, is_nan, of_bits, to_bits, nan_bits}
use lib.Ieee.Bits.{of_bits-fits, nan_bits_is, of_bits-to_bits, to_bits-of_bits}
use lib.Ieee.Compare.{differs_from_itself}
use lib.Ieee.Exact.{HasValue}
use lib.Ieee.Fits.{down_pos}
use lib.Ieee.Nearest.{div_same}
use Rattle.value.specs.declared.Words.{Words}
use Rattle.value.specs.Encoding.{words}
use Rattle.value.specs.Same.{same}
use Rattle.value.proofs.Cases.{caseb, clash, never, iff, and_left, and_right, or_cases, or_right}
use Rattle.value.proofs.Same.{same-eq, eq-same, same-ne}
use Rattle.key.specs.Canonical.{integer, number, largest, ratio, whole, whole_of, whole_key, key_of, number_key, canonical_key}
use Rattle.key.specs.Manual.{IsInteger, is_number, exact, raw_equal, saturates, exception}
use Rattle.key.proofs.Ratios.{ratio-same, of-value, over-one}
use Rattle.key.proofs.Equal.{eq-values}
use Rattle.key.proofs.Own.{canonical-integer}
use Rattle.std.specs.Prelude.{Option, Some, None, Result, Ok, Err}
use Rattle.value.specs.declared.refusal.Refusal.{Refusal}
use Rattle.value.specs.declared.refusal.Refusal.TheVariants.{KeyIsNil, KeyIsNan}

-- ---- a float key that is an integer
not-nan : (x : Float) (s : Bool) (a c : ℕ) → HasValue x s a c → is_nan x ≡ false
unfolding is_nan
not-nan nan s a c v = absurd v
not-nan (inf t) s a c v = refl
not-nan (fin t m e) s a c v = refl

-- a float with an integral value that an integer can represent is that integer; of the value 2 ^ 63 see `saturated`
pub float-integer : (b : ℕ) (s : Bool) (n : ℕ) → HasValue (of_bits binary64 b) s n 1 → n ≤ 2 ^ 63 → number_key b ≡ Ok (whole_key s n)
unfolding number_key
float-integer b s n v l =
    rw (nan_bits_is binary64 b ∙ not-nan (of_bits binary64 b) s n 1 v, of-value (of_bits binary64 b) s n 1 (zero-lt-suc 0) v ∙ over-one s n l)

-- one whole number has one sign and one size
sign_of : Option (Bool × ℕ) → Bool
sign_of (Some w) = w.0
sign_of None = false

size_of : Option (Bool × ℕ) → ℕ
size_of (Some w) = w.1
size_of None = 0

ratio-value : (s t : Bool) (a c n : ℕ) → ratio s a c ≡ whole t n → (s ≡ t) × (a ≡ n * c) × (n ≤ 2 ^ 63)
unfolding sign_of size_of
ratio-value s t a c n h =
    caseb (eqb (a % c) 0 && leb (a / c) (2 ^ 63))
    (λ b. let k : whole s (a / c) ≡ whole t n = rw b at h in
    let p : s ≡ t = ap sign_of k in
    let q : a / c ≡ n = ap size_of k in
    let r : a % c ≡ 0 = eqb-true (a % c) 0 (and_left (eqb (a % c) 0) (leb (a / c) (2 ^ 63)) b) in
    let l : a / c ≤ 2 ^ 63 = leb-true (a / c) (2 ^ 63) (and_right (eqb (a % c) 0) (leb (a / c) (2 ^ 63)) b) in
    (p, omega (arith, div-add-mod' a c, ap (λ (y : ℕ). y * c) q), omega arith))
    (λ b. let k : None ≡ whole t n = rw b at h in never (cc))

whole-value : (x : Float) (s : Bool) (n : ℕ) → whole_of x ≡ whole s n → HasValue x s n 1 × (n ≤ 2 ^ 63)
unfolding whole_of
whole-value nan s n h = never (cc)
whole-value (inf t) s n h = never (cc)
whole-value (fin t m e) s n h = let k = ratio-value t s (m * up e) (down e) n h in ((k.0, mul-one (m * up e) ∙ k.1), k.2)

real-key : (b : ℕ) (k : Words) → number_key b ≡ Ok k → (nan_bits binary64 b ≡ false) × (k ≡ key_of b (whole_of (of_bits binary64 b)))
unfolding number_key
real-key b k h =
    caseb (nan_bits binary64 b)
    (λ t. let g : ◌≡◌ {A = Result Words Refusal} (Err KeyIsNan) (Ok k) = rw t at h in never (cc))
    (λ t. let g : ◌≡◌ {A = Result Words Refusal} (Ok (key_of b (whole_of (of_bits binary64 b)))) (Ok k) = rw t at h in (t, cc))

-- and no other float has an integer for its key
pub integer-float : (b : ℕ) (k : Words) → number_key b ≡ Ok k → k.kind ≡ 2 → IsInteger b k
integer-float b k h i = go (whole_of (of_bits binary64 b)) refl (real-key b k h).1
  where
    go : (w : Option (Bool × ℕ)) → whole_of (of_bits binary64 b) ≡ w → k ≡ key_of b w → IsInteger b k
    go (Some (s, n)) e p = let v = whole-value (of_bits binary64 b) s n e in record { sign = s; size = n; value = v.0; small = v.1; key = p }
    go None e p = let z : ◌≡◌ {A = ℕ} 2 3 = sym i ∙ ap (λ (y : Words). y.kind) p in absurd (omega arith)

-- ---- the exception
-- the Number 2 ^ 63 has the largest integer for its key
pub saturated : canonical_key (number 0x43e0000000000000) ≡ Ok (integer largest)
unfolding canonical_key
saturated = float-integer 0x43e0000000000000 false (2 ^ 63) (unfold of_bits in (refl, refl)) (lit≤ tt)

-- to which it is not equal
pub saturated-differs : raw_equal (number 0x43e0000000000000) (integer largest) ≡ false
unfolding raw_equal exact of_bits eq
saturated-differs = refl

-- whichever of the two comes first
pub exception-is : (u v : Words) → exception u v ≡ true → (raw_equal u v ≡ false) × (canonical_key u ≡ canonical_key v)
exception-is u v e = elim (or_cases (saturates u && same v (integer largest)) (saturates v && same u (integer largest)) e) [
  | inl t ↦ rw ((parts u v t).0, (parts u v t).1) (saturated-differs, saturated ∙ sym (canonical-integer largest))
  | inr t ↦ rw ((parts v u t).0, (parts v u t).1) (turned, canonical-integer largest ∙ sym saturated)
]
  where
    parts : (u v : Words) → (saturates u && same v (integer largest)) ≡ true → (u ≡ number 0x43e0000000000000) × (v ≡ integer largest)
    parts u v t = (same-eq u _ (and_left (saturates u) (same v (integer largest)) t), same-eq v _ (and_right (saturates u) (same v (integer largest)) t))

    turned : raw_equal (integer largest) (number 0x43e0000000000000) ≡ false
    turned = unfold raw_equal exact of_bits eq in refl

-- ---- the key of a number, by the number it denotes
abbrev key_in : Float → Words
key_in x = key_of (to_bits binary64 x) (whole_of x)

to_bits-same : (s : Bool) (m n : ℕ) (e g : ℤ) → m * up e * down g ≡ n * up g * down e → to_bits binary64 (fin s m e) ≡ to_bits binary64 (fin s n g)
unfolding to_bits
to_bits-same s m n e g h =
    let p : m * up e * 2 ^ 1074 * down g ≡ n * up g * 2 ^ 1074 * down e = mul_right_comm (m * up e) (2 ^ 1074) (down g) ∙ ap (λ (y : ℕ). y * 2 ^ 1074) h ∙ mul_right_comm (n * up g) (down e) (2 ^ 1074) in
    rw (div_same (m * up e * 2 ^ 1074) (down e) (n * up g * 2 ^ 1074) (down g) (down_pos e) (down_pos g) p)

zero-key : (s : Bool) (m : ℕ) (e : ℤ) → m * up e ≡ 0 → key_in (fin s m e) ≡ integer 0
zero-key s m e h =
    ap (key_of (to_bits binary64 (fin s m e))) (of-value (fin s m e) s 0 1 (zero-lt-suc 0) (refl, mul-one (m * up e) ∙ h ∙ sym (zero-mul (down e))) ∙ over-one s 0 (lit≤ tt)) ∙ both s
  where
    both : (t : Bool) → whole_key t 0 ≡ integer 0
    both true = refl
    both false = refl

beq-true : (a b : Bool) → beq a b ≡ true → a ≡ b
beq-true true true e = refl
beq-true true false e = sym e
beq-true false true e = e
beq-true false false e = refl

-- equal numbers have one key
eq-key : (x y : Float) → eq x y ≡ true → key_in x ≡ key_in y
unfolding eq
eq-key nan y t = clash t refl
eq-key (inf s) nan t = clash t refl
eq-key (inf s) (inf r) t = ap (λ (z : Bool). key_in (inf z)) (beq-true s r t)
eq-key (inf s) (fin r n g) t = clash t refl
eq-key (fin s m e) nan t = clash t refl
eq-key (fin s m e) (inf r) t = clash t refl
eq-key (fin s m e) (fin r n g) t = elim (or_cases (beq s r) (eqb a 0) (and_right (eqb a b) (beq s r || eqb a 0) t)) [
  | inl p ↦
      let w : whole_of (fin r m e) ≡ whole_of (fin r n g) = unfold whole_of in ratio-same r (m * up e) (down e) (n * up g) (down g) (down_pos e) (down_pos g) h in
      ap (λ (z : Bool). key_in (fin z m e)) (beq-true s r p) ∙ ap₂ key_of (to_bits-same r m n e g h) w
  | inr p ↦
      let z : a ≡ 0 = eqb-true a 0 p in
      zero-key s m e (factor (m * up e) g z) ∙ sym (zero-key r n g (factor (n * up g) e (sym h ∙ z)))
]
  where
    a : ℕ
    a = m * up e * down g

    b : ℕ
    b = n * up g * down e

    h : a ≡ b
    h = eqb-true a b (and_left (eqb a b) (beq s r || eqb a 0) t)

    factor : (x : ℕ) (i : ℤ) → x * down i ≡ 0 → x ≡ 0
    factor x i z = eq_of_mul-eq-mul_right (down i) (down_pos i) x 0 (z ∙ sym (zero-mul (down i)))

-- two's complement tells whole numbers apart, but for 2 ^ 63
abbrev NotLargest : Words → Type 0
NotLargest k = k ≡ integer largest → ⊥

plain : (n : ℕ) → n ≤ 2 ^ 63 → NotLargest (whole_key false n) → ((whole_key false n).payload ≡ n) × (n < 2 ^ 63)
plain n l o = let d : n ≡ 2 ^ 63 → ⊥ = λ e. o (ap (whole_key false) e) in (rw (ne_eqb n (2 ^ 63) d), omega arith)

zeros : (n m : ℕ) → n ≤ 2 ^ 63 → m < 2 ^ 63 → (2 ^ 64 - n) % 2 ^ 64 ≡ m → (n ≡ 0) × (m ≡ 0)
zeros n m l k h = (omega arith, omega arith)

levels : (s t : Bool) (n m : ℕ) → n ≤ 2 ^ 63 → m ≤ 2 ^ 63 → NotLargest (whole_key s n) → NotLargest (whole_key t m) → (whole_key s n).payload ≡ (whole_key t m).payload → level s (n * 1) t (m * 1) ≡ true
levels true true n m l k o w h = let q : n * 1 ≡ m * 1 = omega arith in rw (eq-eqb (n * 1) (m * 1) q)
levels true false n m l k o w h =
    let q : (n ≡ 0) × (m ≡ 0) = zeros n m l (plain m k w).1 (h ∙ (plain m k w).0) in rw (q.0, q.1)
levels false true n m l k o w h =
    let q : (m ≡ 0) × (n ≡ 0) = zeros m n k (plain n l o).1 (sym h ∙ (plain n l o).0) in rw (q.0, q.1)
levels false false n m l k o w h = let q : n ≡ m = sym (plain n l o).0 ∙ h ∙ (plain m k w).0 in rw (eq-eqb (n * 1) (m * 1) (ap (λ (y : ℕ). y * 1) q))

-- k is the key of the number x
record Denotes (x : Float) (k : Words) : Type 0 where
  key : k ≡ key_in x
  real : is_nan x ≡ false
  held : whole_of x ≡ None → T (fits binary64 x)

eq_self : (x : Float) → is_nan x ≡ false → eq x x ≡ true
unfolding is_nan
eq_self x r = caseb (eq x x) (λ t. t) (λ t. let z : x ≡ nan = differs_from_itself x (unfold ne in rw t tt) in clash (ap is_nan z) r)

whole-kind : (s : Bool) (n : ℕ) → (whole_key s n).kind ≡ 2
whole-kind true n = refl
whole-kind false n = caseb (eqb n (2 ^ 63)) (λ t. rw t) (λ t. rw t)

-- and numbers of one key are equal, but where that is the largest integer
key-eq : (x y : Float) (k : Words) → Denotes x k → Denotes y k → NotLargest k → eq x y ≡ true
key-eq x y k a b o = go (whole_of x) (whole_of y) refl refl (sym a.key ∙ b.key)
  where
    go : (w z : Option (Bool × ℕ)) → whole_of x ≡ w → whole_of y ≡ z → key_of (to_bits binary64 x) w ≡ key_of (to_bits binary64 y) z → eq x y ≡ true
    go (Some (s, n)) (Some (t, m)) p q h =
        let v = whole-value x s n p in
        let w = whole-value y t m q in
        eq-values x y s t n 1 m 1 (zero-lt-suc 0) (zero-lt-suc 0) v.0 w.0
        ∙ levels s t n m v.1 w.1 (λ e. o (a.key ∙ ap (key_of (to_bits binary64 x)) p ∙ e)) (λ e. o (b.key ∙ ap (key_of (to_bits binary64 y)) q ∙ e)) (ap (λ (u : Words). u.payload) h)
    go (Some (s, n)) None p q h = let z : ◌≡◌ {A = ℕ} 2 3 = sym (whole-kind s n) ∙ ap (λ (u : Words). u.kind) h in absurd (omega arith)
    go None (Some (t, m)) p q h = let z : ◌≡◌ {A = ℕ} 3 2 = ap (λ (u : Words). u.kind) h ∙ whole-kind t m in absurd (omega arith)
    go None None p q h =
        let e : to_bits binary64 x ≡ to_bits binary64 y = ap (λ (u : Words). u.payload) h in
        let z : x ≡ y = sym (of_bits-to_bits binary64 x (a.held p)) ∙ ap (of_bits binary64) e ∙ of_bits-to_bits binary64 y (b.held q) in
        ap (eq x) (sym z) ∙ eq_self x a.real

-- ---- each key denotes the number that it came from
whole-denotes : (s : Bool) (n p : ℕ) → n ≤ 2 ^ 63 → whole_key s n ≡ integer p → Denotes (fin s n (pos 0)) (integer p)
unfolding is_nan
whole-denotes s n p l k =
    let w : whole_of (fin s n (pos 0)) ≡ whole s n = of-value (fin s n (pos 0)) s n 1 (zero-lt-suc 0) (refl, mul-one (n * 1)) ∙ over-one s n l in
    record {
      key = sym (ap (key_of (to_bits binary64 (fin s n (pos 0)))) w ∙ k);
      real = refl;
      held = λ e. never (cc);
    }

integer-denotes : (p : ℕ) → p < 2 ^ 64 → Denotes (exact (integer p)) (integer p)
unfolding exact
integer-denotes p l =
    caseb (leb (2 ^ 63) p)
    (λ t. let g : 2 ^ 63 ≤ p = leb-true (2 ^ 63) p t in
    let k : (2 ^ 64 - (2 ^ 64 - p)) % 2 ^ 64 ≡ p = omega arith in
    rw t (whole-denotes true (2 ^ 64 - p) p (omega arith) (ap integer k)))
    (λ t. let g : p < 2 ^ 63 = leb-false (2 ^ 63) p t in
    rw t (whole-denotes false p p (omega arith) (rw (ne_eqb p (2 ^ 63) (λ e. omega arith)))))

number-denotes : (b : ℕ) (k : Words) → b < 2 ^ 64 → number_key b ≡ Ok k → Denotes (of_bits binary64 b) k
number-denotes b k l h =
    let r : is_nan (of_bits binary64 b) ≡ false = sym (nan_bits_is binary64 b) ∙ (real-key b k h).0 in
    let t : to_bits binary64 (of_bits binary64 b) ≡ b = to_bits-of_bits binary64 b l (rw r tt) in
    record {
      key = (real-key b k h).1 ∙ ap (λ (c : ℕ). key_of c (whole_of (of_bits binary64 b))) (sym t);
      real = r;
      held = λ e. of_bits-fits binary64 b;
    }

denotes : (u k : Words) → u.payload < 2 ^ 64 → canonical_key u ≡ Ok k → is_number u ≡ true → Denotes (exact u) k
unfolding canonical_key exact
denotes u k l h i = elim (or_cases (eqb u.kind 2) (eqb u.kind 3) i) [
  | inl t ↦ at 2 (eqb-true u.kind 2 t) (λ g. let e : integer p ≡ k = cc in subst (Denotes (exact (integer p))) e (integer-denotes p l))
  | inr t ↦ at 3 (eqb-true u.kind 3 t) (number-denotes p k l)
]
  where
    p : ℕ
    p = u.payload

    at : (c : ℕ) → u.kind ≡ c → (canonical_key (words c p) ≡ Ok k → Denotes (exact (words c p)) k) → Denotes (exact u) k
    at c q f = subst (λ (c : ℕ). canonical_key (words c p) ≡ Ok k → Denotes (exact (words c p)) k) (sym q) f h

-- ---- a value that is no Number is its own key
own : (u k : Words) → canonical_key u ≡ Ok k → eqb u.kind 3 ≡ false → k ≡ u
unfolding canonical_key
own u k h i =
    caseb (eqb u.kind 0)
    (λ t. let g : ◌≡◌ {A = Result Words Refusal} (Err KeyIsNil) (Ok k) = rw t at h in never (cc))
    (λ t. let g : ◌≡◌ {A = Result Words Refusal} (Ok u) (Ok k) = rw (t, i) at h in cc)

other : (u k : Words) → canonical_key u ≡ Ok k → is_number u ≡ false → k ≡ u
other u k h i = own u k h (caseb (eqb u.kind 3) (λ v. clash (or_right (eqb u.kind 2) (eqb u.kind 3) v) i) (λ v. v))

key-number : (u k : Words) → canonical_key u ≡ Ok k → (is_number u ≡ true → Denotes (exact u) k) → is_number k ≡ is_number u
key-number u k h d = caseb (is_number u) (λ t. ap is_number (d t).key ∙ kinds (whole_of (exact u)) ∙ sym t) (λ t. ap is_number (other u k h t))
  where
    kinds : (w : Option (Bool × ℕ)) → is_number (key_of (to_bits binary64 (exact u)) w) ≡ true
    kinds (Some (s, n)) = rw (whole-kind s n)
    kinds None = refl

-- ---- the largest integer is the key of itself and of the Number 2 ^ 63 alone
-- the only Number with the value 2 ^ 63
top-bits : (x : Float) → HasValue x false (2 ^ 63) 1 → to_bits binary64 x ≡ 0x43e0000000000000
unfolding to_bits size span climb
top-bits nan v = absurd v
top-bits (inf t) v = absurd v
top-bits (fin t m e) v = ap (λ (s : Bool). to_bits binary64 (fin s m e)) v.0 ∙ to_bits-same false m 1 e (pos 63) v.1

-- no Number has the value of the largest integer: it would come back from its bits, which cut it down
not-largest : (x : Float) → T (fits binary64 x) → HasValue x false largest 1 → ⊥
not-largest nan f v = v
not-largest (inf t) f v = v
not-largest (fin t m e) f v =
    let p : to_bits binary64 (fin t m e) ≡ cut = ap (λ (s : Bool). to_bits binary64 (fin s m e)) v.0 ∙ to_bits-same false m largest e (pos 0) v.1 ∙ cut-is in
    back (subst (λ (x : Float). HasValue x false largest 1) (sym (of_bits-to_bits binary64 (fin t m e) f) ∙ ap (of_bits binary64) p) v)
  where
    cut : ℕ
    cut = 0x43dfffffffffffff

    cut-is : to_bits binary64 (fin false largest (pos 0)) ≡ cut
    cut-is = unfold to_bits size span climb in refl

    back : HasValue (of_bits binary64 cut) false largest 1 → ⊥
    back w = unfold of_bits in let z : 9223372036854774784 ≡ largest = w.1 in omega arith

number-largest : (b : ℕ) → b < 2 ^ 64 → number_key b ≡ Ok (integer largest) → b ≡ 0x43e0000000000000
number-largest b l h = let i = integer-float b (integer largest) h refl in go i.sign i.size i.value i.small (ap (λ (w : Words). w.payload) i.key)
  where
    x : Float
    x = of_bits binary64 b

    go : (s : Bool) (n : ℕ) → HasValue x s n 1 → n ≤ 2 ^ 63 → largest ≡ (whole_key s n).payload → b ≡ 0x43e0000000000000
    go true n v m k = absurd (omega arith)
    go false n v m k =
        caseb (eqb n (2 ^ 63))
        (λ t. sym (to_bits-of_bits binary64 b l (rw (not-nan x false n 1 v) tt)) ∙ top-bits x (subst (λ (y : ℕ). HasValue x false y 1) (eqb-true n (2 ^ 63) t) v))
        (λ t. let e : largest ≡ n = rw t at k in absurd (not-largest x (of_bits-fits binary64 b) (subst (λ (y : ℕ). HasValue x false y 1) (sym e) v)))

pub largest-key : (u : Words) → u.payload < 2 ^ 64 → canonical_key u ≡ Ok (integer largest) → (u ≡ number 0x43e0000000000000) ⊎ (u ≡ integer largest)
unfolding canonical_key
largest-key u l h =
    caseb (eqb u.kind 3)
    (λ t. let q : u.kind ≡ 3 = eqb-true u.kind 3 t in
    let g : number_key u.payload ≡ Ok (integer largest) = rw q at h in
    let e = number-largest u.payload l g in
    inl (λ i. words (q i) (e i)))
    (λ t. inr (sym (own u (integer largest) h t)))

-- ---- equality
-- equal values have one key
joined : (u v k j : Words) → u.payload < 2 ^ 64 → v.payload < 2 ^ 64 → canonical_key u ≡ Ok k → canonical_key v ≡ Ok j → raw_equal u v ≡ true → k ≡ j
unfolding raw_equal
joined u v k j lu lv hu hv e =
    caseb (is_number u && is_number v)
    (λ t. let a : Denotes (exact u) k = denotes u k lu hu (and_left (is_number u) (is_number v) t) in
    let b : Denotes (exact v) j = denotes v j lv hv (and_right (is_number u) (is_number v) t) in
    a.key ∙ eq-key (exact u) (exact v) (rw t at e) ∙ sym b.key)
    (λ t. let p : ◌≡◌ {A = Result Words Refusal} (Ok k) (Ok j) = sym hu ∙ ap canonical_key (same-eq u v (rw t at e)) ∙ hv in cc)

-- values of one key are equal, but where that is the largest integer
equal : (u v k : Words) → u.payload < 2 ^ 64 → v.payload < 2 ^ 64 → canonical_key u ≡ Ok k → canonical_key v ≡ Ok k → NotLargest k → raw_equal u v ≡ true
unfolding raw_equal
equal u v k lu lv hu hv o =
    caseb (is_number u && is_number v)
    (λ t. rw t (key-eq (exact u) (exact v) k (denotes u k lu hu (and_left (is_number u) (is_number v) t)) (denotes v k lv hv (and_right (is_number u) (is_number v) t)) o))
    (λ t. rw t (eq-same u v (others t)))
  where
    others : (is_number u && is_number v) ≡ false → u ≡ v
    others t =
        let q : is_number u ≡ is_number v = sym (key-number u k hu (denotes u k lu hu)) ∙ key-number v k hv (denotes v k lv hv) in
        let f : is_number v ≡ false = sym (and_self (is_number v)) ∙ ap (λ (c : Bool). c && is_number v) (sym q) ∙ t in
        sym (other u k hu (q ∙ f)) ∙ other v k hv f

abbrev HasLargest : Words → Type 0
HasLargest u = (u ≡ number 0x43e0000000000000) ⊎ (u ≡ integer largest)

-- and there too, each to itself
tops : (u v : Words) → HasLargest u → HasLargest v → exception u v ≡ false → raw_equal u v ≡ true
unfolding raw_equal exact of_bits eq same
tops u v (inl a) (inl b) o = rw (a, b)
tops u v (inl a) (inr b) o = clash (rw (a, b)) o
tops u v (inr a) (inl b) o = clash (rw (a, b)) o
tops u v (inr a) (inr b) o = rw (a, b)

-- two values are one key exactly when raw equality joins them, but for the Number 2 ^ 63 and the largest Integer
pub same_key : (u v k j : Words) → u.payload < 2 ^ 64 → v.payload < 2 ^ 64 → exception u v ≡ false → canonical_key u ≡ Ok k → canonical_key v ≡ Ok j → raw_equal u v ≡ same k j
same_key u v k j lu lv o hu hv = iff (raw_equal u v) (same k j) (λ e. eq-same k j (joined u v k j lu lv hu hv e)) (λ e. back (same-eq k j e))
  where
    back : k ≡ j → raw_equal u v ≡ true
    back e =
        let g : canonical_key v ≡ Ok k = hv ∙ ap Ok (sym e) in
        caseb (same k (integer largest))
        (λ t. let q : ◌≡◌ {A = Result Words Refusal} (Ok k) (Ok (integer largest)) = ap Ok (same-eq k (integer largest) t) in tops u v (largest-key u lu (hu ∙ q)) (largest-key v lv (g ∙ q)) o)
        (λ t. equal u v k lu lv hu g (same-ne k (integer largest) t))
