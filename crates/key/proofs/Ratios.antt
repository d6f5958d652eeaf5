-- When a fraction is a whole number of size at most 2 ^ 63, and that this goes by the fraction's value: so it can be read off a float's fields.
-- Assumes nothing.
use mathlib.Core.Path.{◌≡◌, refl, sym, ap, ◌∙◌, subst}
use mathlib.Core.Bool.{Bool, true, false, ◌&&◌, cond}
use Prim.Native.Nat.{ℕ, zero, suc, ◌+◌, ◌-◌, ◌*◌, ◌/◌, ◌%◌, ◌^◌, ◌≤◌, ◌<◌}
use native.Mathlib.Nat.{mul-one, mul_assoc, mul_right_comm, mul-mod_left, eq_of_mul-eq-mul_right, div-add-mod', add-zero, mod-eq_of_lt, mod-one, div-one, lt_of_lt_of_le, le_trans, div-le_self, mul-le-mul}
use native.Mathlib.Omega.{arith}
use borrow.Author.Tests.{eq-eqb, ne_eqb, le-leb, lt-leb, eqb-true, eqb-false}
use lib.Dec.{T, eqb, leb, lit<, leb→le}
use lib.Pow.{pow-add, pow_pos, pow_mono, shl_lt}
use lib.Ieee.{Float, nan, inf, fin, binary64, up, down, odd, of_fields}
use lib.Ieee.Exact.{HasValue, odd_sign}
use lib.Ieee.Fits.{down_pos, and_r}
use lib.Ieee.Nearest.{div_same}
use Rattle.value.proofs.Cases.{iff}
use Rattle.key.specs.Canonical.{ratio, whole, whole_of}
use Rattle.std.specs.Prelude.{Option, Some, None}

pub ratio-is : (s : Bool) (a c : ℕ) → a % c ≡ 0 → a / c ≤ 2 ^ 63 → ratio s a c ≡ whole s (a / c)
ratio-is s a c h l = simp (eq-eqb _ _ h, le-leb _ _ l)

pub ratio-not : (s : Bool) (a c : ℕ) → (a % c ≡ 0 → ⊥) → ratio s a c ≡ None
ratio-not s a c h = simp (ne_eqb _ _ h)

pub ratio-large : (s : Bool) (a c : ℕ) → 2 ^ 63 < a / c → ratio s a c ≡ None
ratio-large s a c h = ap (λ (b : Bool). cond (eqb (a % c) 0 && b) (whole s (a / c)) None) (lt-leb _ _ h) ∙ off (eqb (a % c) 0)
  where
    off : (b : Bool) → cond (b && false) (whole s (a / c)) None ≡ None
    off true = refl
    off false = refl

-- a fraction that is whole stays so as another fraction of its value
whole-too : (a b c d : ℕ) → 0 < b → a * d ≡ c * b → a % b ≡ 0 → c % d ≡ 0
whole-too a b c d h e z =
    let q : a ≡ a / b * b = sym (div-add-mod' a b) ∙ ap (λ (r : ℕ). a / b * b + r) z ∙ add-zero (a / b * b) in
    let f : c * b ≡ a / b * d * b = sym e ∙ ap (λ (y : ℕ). y * d) q ∙ mul_right_comm (a / b) b d in
    ap (λ (y : ℕ). y % d) (eq_of_mul-eq-mul_right b h c (a / b * d) f) ∙ mul-mod_left (a / b) d

pub ratio-same : (s : Bool) (a b c d : ℕ) → 0 < b → 0 < d → a * d ≡ c * b → ratio s a b ≡ ratio s c d
ratio-same s a b c d h k e =
    let z : eqb (a % b) 0 ≡ eqb (c % d) 0 = iff (eqb (a % b) 0) (eqb (c % d) 0) (λ t. eq-eqb _ _ (whole-too a b c d h e (eqb-true _ _ t))) (λ t. eq-eqb _ _ (whole-too c d a b k (sym e) (eqb-true _ _ t))) in
    let q : a / b ≡ c / d = div_same a b c d h k e in
    ap (λ (t : Bool). cond (t && leb (a / b) (2 ^ 63)) (whole s (a / b)) None) z
    ∙ ap (λ (n : ℕ). cond (eqb (c % d) 0 && leb n (2 ^ 63)) (whole s n) None) q

-- a float is the whole number that its value is
pub of-value : (x : Float) (s : Bool) (a c : ℕ) → 0 < c → HasValue x s a c → whole_of x ≡ ratio s a c
unfolding whole_of
of-value nan s a c h v = absurd v
of-value (inf t) s a c h v = absurd v
of-value (fin t m e) s a c h v = ap (λ (b : Bool). ratio b (m * up e) (down e)) v.0 ∙ ratio-same s (m * up e) (down e) a c (down_pos e) h v.1

-- ---- by the fields
-- a field that is neither 0 nor all ones
pub normal : (s : Bool) (x t : ℕ) → (suc x ≡ 2047 → ⊥) → whole_of (of_fields binary64 s (suc x) t) ≡ ratio s ((2 ^ 52 + t) * 2 ^ x) (2 ^ 1074)
unfolding of_fields
normal s x t h = ap whole_of (ap (λ (b : Bool). cond b (cond (eqb t 0) (inf s) nan) (odd 53 s (2 ^ 52 + t) x 1074)) (ne_eqb _ _ h)) ∙ of-value (odd 53 s (2 ^ 52 + t) x 1074) s ((2 ^ 52 + t) * 2 ^ x) (2 ^ 1074) (pow_pos 1074) (odd_sign 53 s (2 ^ 52 + t) x 1074)

-- below 2 ^ 53 the digits are over a power of two
pub low_field : (s : Bool) (x t j : ℕ) → x + j ≡ 1074 → whole_of (of_fields binary64 s (suc x) t) ≡ ratio s (2 ^ 52 + t) (2 ^ j)
low_field s x t j h = normal s x t (λ e. omega arith) ∙ ratio-same s (d * 2 ^ x) (2 ^ 1074) d (2 ^ j) (pow_pos 1074) (pow_pos j) (mul_assoc d (2 ^ x) (2 ^ j) ∙ ap (λ (y : ℕ). d * y) (sym (pow-add 2 x j) ∙ ap (λ (y : ℕ). 2 ^ y) h))
  where
    d : ℕ
    d = 2 ^ 52 + t

-- from 2 ^ 52 on the digits are times a power of two
pub high-field : (s : Bool) (x t k : ℕ) → k + 1074 ≡ x → (suc x ≡ 2047 → ⊥) → whole_of (of_fields binary64 s (suc x) t) ≡ ratio s ((2 ^ 52 + t) * 2 ^ k) 1
high-field s x t k h n = normal s x t n ∙ ratio-same s (d * 2 ^ x) (2 ^ 1074) (d * 2 ^ k) 1 (pow_pos 1074) (omega arith) (mul-one (d * 2 ^ x) ∙ ap (λ (y : ℕ). d * 2 ^ y) (sym h) ∙ ap (λ (y : ℕ). d * y) (pow-add 2 k 1074) ∙ sym (mul_assoc d (2 ^ k) (2 ^ 1074)))
  where
    d : ℕ
    d = 2 ^ 52 + t

pub over-one : (s : Bool) (n : ℕ) → n ≤ 2 ^ 63 → ratio s n 1 ≡ whole s n
over-one s n h = ratio-is s n 1 (mod-one n) (subst (λ (y : ℕ). y ≤ 2 ^ 63) (sym (div-one n)) h) ∙ ap (whole s) (div-one n)

over-one-large : (s : Bool) (n : ℕ) → 2 ^ 63 < n → ratio s n 1 ≡ None
over-one-large s n h = ratio-large s n 1 (subst (λ (y : ℕ). 2 ^ 63 < y) (sym (div-one n)) h)

-- a number above 0 and below a power of two is no multiple of it
under : (a k : ℕ) → 0 < a → a < 2 ^ k → a % 2 ^ k ≡ 0 → ⊥
under a k p h e = let z : a ≡ 0 = sym (mod-eq_of_lt h) ∙ e in omega arith

-- ---- what whole_of_fields meets, by exponent e and digits t
pub zero_field : (s : Bool) → whole_of (of_fields binary64 s 0 0) ≡ whole s 0
unfolding of_fields whole_of
zero_field s = refl

pub subnormal : (s : Bool) (t : ℕ) → (t ≡ 0 → ⊥) → t < 2 ^ 52 → whole_of (of_fields binary64 s 0 t) ≡ None
unfolding of_fields
subnormal s t z h =
    of-value (odd 53 s t 0 1074) s (t * 2 ^ 0) (2 ^ 1074) (pow_pos 1074) (odd_sign 53 s t 0 1074)
    ∙ ratio-not s (t * 2 ^ 0) (2 ^ 1074) (subst (λ (y : ℕ). y % 2 ^ 1074 ≡ 0 → ⊥) (sym (mul-one t)) (under t 1074 (omega arith) (lt_of_lt_of_le h (pow_mono {i = 52} {j = 1074} (omega arith)))))

pub fraction : (s : Bool) (e t : ℕ) → (e ≡ 0 → ⊥) → e < 1023 → t < 2 ^ 52 → whole_of (of_fields binary64 s e t) ≡ None
fraction s zero t z h l = absurd (z refl)
fraction s (suc x) t z h l =
    let j = 1074 - x in
    low_field s x t j (omega arith) ∙ ratio-not s (2 ^ 52 + t) (2 ^ j) (under (2 ^ 52 + t) j (omega arith) (lt_of_lt_of_le (small t l) (pow_mono {i = 53} {j = j} (omega arith))))
  where
    small : (t : ℕ) → t < 2 ^ 52 → 2 ^ 52 + t < 2 ^ 53
    small t l = omega arith

pub large : (s : Bool) (e t : ℕ) → 1086 < e → whole_of (of_fields binary64 s e t) ≡ None
unfolding of_fields whole_of
large s zero t h = absurd (omega arith)
large s (suc x) t h = go (eqb (suc x) 2047) refl
  where
    ends : (b : Bool) → whole_of (cond b (inf s) nan) ≡ None
    ends true = refl
    ends false = refl

    top : suc x ≡ 2047 → whole_of (of_fields binary64 s (suc x) t) ≡ None
    top e = ap (λ (b : Bool). whole_of (cond b (cond (eqb t 0) (inf s) nan) (odd 53 s (2 ^ 52 + t) x 1074))) (eq-eqb _ _ e) ∙ ends (eqb t 0)

    big : (k : ℕ) → 12 ≤ k → 2 ^ 63 < (2 ^ 52 + t) * 2 ^ k
    big k l = lt_of_lt_of_le (lit< tt) (mul-le-mul {n₁ = 2 ^ 52} {m₁ = 2 ^ 12} {n₂ = 2 ^ 52 + t} {m₂ = 2 ^ k} (omega arith) (pow_mono {i = 12} {j = k} l))

    go : (b : Bool) → eqb (suc x) 2047 ≡ b → whole_of (of_fields binary64 s (suc x) t) ≡ None
    go true e = top (eqb-true _ _ e)
    go false e = high-field s x t (x - 1074) (omega arith) (eqb-false _ _ e) ∙ over-one-large s ((2 ^ 52 + t) * 2 ^ (x - 1074)) (big (x - 1074) (omega arith))

pub middle : (s : Bool) (e t : ℕ) → 1023 ≤ e → e < 1075 → whole_of (of_fields binary64 s e t) ≡ ratio s (2 ^ 52 + t) (2 ^ (1075 - e))
middle s zero t h l = absurd (omega arith)
middle s (suc x) t h l = let p : 1074 - x ≡ 1075 - suc x = omega arith in low_field s x t (1074 - x) (omega arith) ∙ ap (λ (j : ℕ). ratio s (2 ^ 52 + t) (2 ^ j)) p

pub upper : (s : Bool) (e t : ℕ) → 1075 ≤ e → e ≤ 1086 → whole_of (of_fields binary64 s e t) ≡ ratio s ((2 ^ 52 + t) * 2 ^ (e - 1075)) 1
upper s zero t h l = absurd (omega arith)
upper s (suc x) t h l = high-field s x t (suc x - 1075) (omega arith) (λ e. omega arith)

pub upper_is : (s : Bool) (e t n : ℕ) → 1075 ≤ e → e ≤ 1086 → n ≡ (2 ^ 52 + t) * 2 ^ (e - 1075) → n ≤ 2 ^ 63 → whole_of (of_fields binary64 s e t) ≡ whole s n
upper_is s e t n h l p q = upper s e t h l ∙ ap (λ (y : ℕ). ratio s y 1) (sym p) ∙ over-one s n q

pub upper-large : (s : Bool) (e t n : ℕ) → 1075 ≤ e → e ≤ 1086 → n ≡ (2 ^ 52 + t) * 2 ^ (e - 1075) → 2 ^ 63 < n → whole_of (of_fields binary64 s e t) ≡ None
upper-large s e t n h l p q = upper s e t h l ∙ ap (λ (y : ℕ). ratio s y 1) (sym p) ∙ over-one-large s n q

-- a whole number that a float is has a size of at most 2 ^ 63
abbrev pub Small : Option (Bool × ℕ) → Type 0
Small (Some (s, n)) = n ≤ 2 ^ 63
Small None = Unit {0}

small-ratio : (s : Bool) (a c : ℕ) → Small (ratio s a c)
small-ratio s a c = go (eqb (a % c) 0 && leb (a / c) (2 ^ 63)) (λ h. leb→le _ _ (and_r (eqb (a % c) 0) (leb (a / c) (2 ^ 63)) h))
  where
    go : (b : Bool) → (T b → a / c ≤ 2 ^ 63) → Small (cond b (whole s (a / c)) None)
    go true f = f tt
    go false f = tt

pub small : (x : Float) → Small (whole_of x)
unfolding whole_of
small nan = tt
small (inf t) = tt
small (fin t m f) = small-ratio t (m * up f) (down f)

pub middle-is : (s : Bool) (e t u : ℕ) → 1023 ≤ e → e < 1075 → t < 2 ^ 52 → u ≡ 2 ^ (1075 - e) → (2 ^ 52 + t) % u ≡ 0 → whole_of (of_fields binary64 s e t) ≡ whole s ((2 ^ 52 + t) / u)
middle-is s e t u h l f p z =
    middle s e t h l
    ∙ ap (ratio s (2 ^ 52 + t)) (sym p)
    ∙ ratio-is s (2 ^ 52 + t) u z (le_trans (div-le_self (2 ^ 52 + t) u) (omega arith))

pub middle-not : (s : Bool) (e t u : ℕ) → 1023 ≤ e → e < 1075 → u ≡ 2 ^ (1075 - e) → ((2 ^ 52 + t) % u ≡ 0 → ⊥) → whole_of (of_fields binary64 s e t) ≡ None
middle-not s e t u h l p z = middle s e t h l ∙ ap (ratio s (2 ^ 52 + t)) (sym p) ∙ ratio-not s (2 ^ 52 + t) u z

-- the digits times the power fit a word
pub upper_fits : (e t u : ℕ) → t < 2 ^ 52 → 1075 ≤ e → e ≤ 1086 → u ≡ 2 ^ (e - 1075) → (2 ^ 52 + t) * u < 2 ^ 64
upper_fits e t u h l k p = subst (λ (y : ℕ). (2 ^ 52 + t) * y < 2 ^ 64) (sym p) (lt_of_lt_of_le (shl_lt 53 (e - 1075) (omega arith)) (pow_mono {i = 53 + (e - 1075)} {j = 64} (omega arith)))
