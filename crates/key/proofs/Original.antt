-- The canonical key and the array index are the original's, at every bit pattern. Assumes nothing.
use mathlib.Core.Path.{◌≡◌, refl, sym, ap, ◌∙◌, subst}
use mathlib.Core.Bool.{Bool, true, false, ◌&&◌, ◌||◌, cond, beq, and-true, and-false}
use Prim.Native.Nat.{ℕ, zero, suc, ◌+◌, ◌-◌, ◌*◌, ◌/◌, ◌%◌, ◌^◌, ◌≤◌, ◌<◌, min}
use native.Mathlib.Nat.{zero-mul, mul-one, mul_assoc, div-one, div-le_self, le_trans, lt_of_le_of_lt, mul-le-mul_right, div-add-mod', mul-div_cancel, zero-lt-suc}
use native.Mathlib.Omega.{arith}
use borrow.Author.Tests.{eq-eqb, ne_eqb, eqb-true, eqb-false, leb-true, leb-false, ltb-true, ltb-false, lt-ltb, le-leb, lt-leb}
use lib.Dec.{T, eqb, leb, ltb, lit<, ltb→lt, lit≤}
use lib.Pow.{pow-add, pow_pos}
use lib.IntN.{ℤ, pos, negsuc, neg_ℤ}
use lib.Ieee.{Float, nan, inf, fin, binary64, up, down, size, span, climb, units, odd, round, of_int, to_signed, eq, fits, of_bits, is_nan, nan_bits}
use lib.Ieee.Bits.{of_bits-fits, nan_bits_is}
use lib.Ieee.Exact.{HasValue, round_exact}
use lib.Ieee.Back.{round_whole}
use lib.Ieee.Fits.{down_pos, and_l, and_r}
use mir.Syntax.{w64}
use mir.Val.{SFits, of_z, to_z}
use mir.Facts.{to_z-of_z}
use Rattle.value.specs.declared.Words.{Words}
use Rattle.value.proofs.Cases.{caseb, clash, never, iff, and_left, and_right}
use Rattle.key.specs.Canonical.{integer, number, largest, whole, whole_of, whole_key, key_of, number_key, canonical_key, on_key, array_index}
use Rattle.key.specs.Original.{f64_to_i64, from_i64, canonical_float_bytes, original_number_key, original_key, original_index}
use Rattle.key.proofs.Ratios.{of-value, over-one, Small, small}
use Rattle.key.proofs.Equal.{eq-values}
use Rattle.std.specs.Prelude.{Option, Some, None, Ok, Err}
use Rattle.value.specs.declared.refusal.Refusal.TheVariants.{KeyIsNan}

-- ---- a float's cut, as a float again
-- a float has at most 53 digits
digits : (s : Bool) (m : ℕ) (e : ℤ) → T (fits binary64 (fin s m e)) → m < 2 ^ 53
unfolding fits
digits s zero e t = pow_pos 53
digits s (suc m) e t =
    ltb→lt (suc m) (2 ^ 53) (and_r (eqb (suc m % 2) 1) (ltb (suc m) (2 ^ 53)) (and_l (eqb (suc m % 2) 1 && ltb (suc m) (2 ^ 53)) (leb (down e) (2 ^ 1074))
    (and_l (eqb (suc m % 2) 1 && ltb (suc m) (2 ^ 53) && leb (down e) (2 ^ 1074)) (ltb (suc m * up e) (2 ^ 1024 * down e)) t)))

-- so its cut, up to 2 ^ 63, is a value of the format
held : (s : Bool) (m : ℕ) (e : ℤ) → m < 2 ^ 53 → m * up e / down e ≤ 2 ^ 63 → HasValue (round binary64 s (m * up e / down e) 1) s (m * up e / down e) 1
held s m (negsuc k) h l = round_whole binary64 s (m * 1 / 2 ^ suc k) (le_trans (div-le_self (m * 1) (2 ^ suc k)) (omega arith))
held s m (pos k) h l =
    let q = m * 2 ^ k in
    let f : q * 2 ^ 1074 ≡ m * 2 ^ (k + 1074) = mul_assoc m (2 ^ k) (2 ^ 1074) ∙ ap (λ (y : ℕ). m * y) (sym (pow-add 2 k 1074)) in
    let g : q ≤ 2 ^ 63 = subst (λ (y : ℕ). y ≤ 2 ^ 63) (div-one q) l in
    subst (λ (y : ℕ). HasValue (round binary64 s y 1) s y 1) (sym (div-one q))
    (round_exact binary64 s q 1 m (k + 1074) (zero-lt-suc 0) h
    (subst (λ (y : ℕ). y < 2 ^ 2098) f (lt_of_le_of_lt (mul-le-mul_right (2 ^ 1074) g) (lit< tt)))
    (f ∙ sym (mul-one (m * 2 ^ (k + 1074)))))

-- the largest integer rounds up
largest-rounds : HasValue (of_int binary64 (pos largest)) false (2 ^ 63) 1
unfolding of_int round size span climb units odd
largest-rounds = (refl, refl)

end-held : (s : Bool) → HasValue (round binary64 s (2 ^ 63) 1) s (2 ^ 63) 1
end-held s = held s 1 (pos 63) (lit< tt) (lit≤ tt)

-- a cut of size p, at most 2 ^ 63, brought into the range of an i64
abbrev signed : Bool → ℕ → ℤ
signed true p = neg_ℤ (pos p)
signed false p = pos (min p (2 ^ 63 - 1))

to_signed-is : (s : Bool) (m : ℕ) (e : ℤ) → to_signed 63 (fin s m e) ≡ signed s (min (m * up e / down e) (2 ^ 63))
unfolding to_signed
to_signed-is true m e = refl
to_signed-is false m e = ap pos (twice (m * up e / down e))
  where
    twice : (q : ℕ) → min q (2 ^ 63 - 1) ≡ min (min q (2 ^ 63)) (2 ^ 63 - 1)
    twice q = omega arith

-- a value of the format is the float given exactly when the fractions agree
agree : (y : Float) (r s : Bool) (p m : ℕ) (e : ℤ) → HasValue y r p 1 → (beq r s || eqb (p * down e) 0) ≡ true → eq y (fin s m e) ≡ eqb (p * down e) (m * up e)
agree y r s p m e v t = eq-values y (fin s m e) r s p 1 (m * up e) (down e) (zero-lt-suc 0) (down_pos e) v (refl, refl) ∙ rw (t, mul-one (m * up e)) (and-true _)

uncapped : (p : ℕ) → p ≤ 2 ^ 63 → (p ≡ 2 ^ 63 → ⊥) → min p (2 ^ 63 - 1) ≡ p
uncapped p l n = omega arith

compared : (s : Bool) (p m : ℕ) (e : ℤ) → p ≤ 2 ^ 63 → HasValue (round binary64 s p 1) s p 1 → eq (of_int binary64 (signed s p)) (fin s m e) ≡ eqb (p * down e) (m * up e)
unfolding of_int
compared true zero m e l v = agree (round binary64 false 0 1) false true 0 m e (round_whole binary64 false 0 (lit≤ tt)) (eq-eqb _ _ (zero-mul (down e)))
compared true (suc p) m e l v = agree (round binary64 true (suc p) 1) true true (suc p) m e v refl
compared false p m e l v =
    caseb (eqb p (2 ^ 63))
    (λ t. rw (eqb-true p (2 ^ 63) t) (agree (round binary64 false (2 ^ 63 - 1) 1) false false (2 ^ 63) m e largest-rounds refl))
    (λ t. rw (uncapped p l (eqb-false p (2 ^ 63) t)) (agree (round binary64 false p 1) false false p m e v refl))

-- that is, when the float is whole and at most 2 ^ 63
fraction : (a c : ℕ) → 0 < c → eqb (min (a / c) (2 ^ 63) * c) a ≡ (eqb (a % c) 0 && leb (a / c) (2 ^ 63))
fraction a c h =
    caseb (leb (a / c) (2 ^ 63))
    (λ t. let k : min (a / c) (2 ^ 63) ≡ a / c = omega (arith, leb-true (a / c) (2 ^ 63) t) in
    let d : a / c * c + a % c ≡ a = div-add-mod' a c in
    rw (t, k, and-true (eqb (a % c) 0)) (iff (eqb (a / c * c) a) (eqb (a % c) 0) (λ e. eq-eqb (a % c) 0 (omega (arith, eqb-true (a / c * c) a e))) (λ e. eq-eqb (a / c * c) a (omega (arith, eqb-true (a % c) 0 e)))))
    (λ t. let l : 2 ^ 63 < a / c = leb-false (a / c) (2 ^ 63) t in
    let k : min (a / c) (2 ^ 63) ≡ 2 ^ 63 = omega arith in
    rw (t, k, and-false (eqb (a % c) 0)) (ne_eqb _ _ (λ e. let z : a / c ≡ 2 ^ 63 = ap (λ (y : ℕ). y / c) (sym e) ∙ mul-div_cancel (2 ^ 63) h in omega arith)))

comes_back : (s : Bool) (m : ℕ) (e : ℤ) → T (fits binary64 (fin s m e)) → eq (of_int binary64 (to_signed 63 (fin s m e))) (fin s m e) ≡ (eqb (m * up e % down e) 0 && leb (m * up e / down e) (2 ^ 63))
comes_back s m e t = rw (to_signed-is s m e) (compared s (min q (2 ^ 63)) m e (least q) value) ∙ fraction (m * up e) (down e) (down_pos e)
  where
    q : ℕ
    q = m * up e / down e

    least : (q : ℕ) → min q (2 ^ 63) ≤ 2 ^ 63
    least q = omega arith

    value : HasValue (round binary64 s (min q (2 ^ 63)) 1) s (min q (2 ^ 63)) 1
    value = caseb (leb q (2 ^ 63))
        (λ l. let k : min q (2 ^ 63) ≡ q = omega (arith, leb-true q (2 ^ 63) l) in rw k (held s m e (digits s m e t) (leb-true q (2 ^ 63) l)))
        (λ l. let k : min q (2 ^ 63) ≡ 2 ^ 63 = omega (arith, leb-false q (2 ^ 63) l) in rw k (end-held s))

-- ---- the original's f64_to_i64
abbrev on_whole : {X : Type 0} → Option (Bool × ℕ) → (ℤ → X) → X → X
on_whole (Some (s, n)) some none = some (signed s n)
on_whole None some none = none

no-equal : (y : Float) → eq y nan ≡ false
unfolding eq
no-equal nan = refl
no-equal (inf s) = refl
no-equal (fin s m e) = refl

not_infinite : (y : Float) (r s : Bool) (n : ℕ) → HasValue y r n 1 → eq y (inf s) ≡ false
unfolding eq
not_infinite nan r s n v = absurd v
not_infinite (inf t) r s n v = absurd v
not_infinite (fin t m e) r s n v = refl

-- it gives the whole number that a float is, brought into range, and nothing where the float is none
to-integer : {X : Type 0} (x : Float) (some : ℤ → X) (none : X) → T (fits binary64 x) → f64_to_i64 x some none ≡ on_whole (whole_of x) some none
unfolding whole_of
to-integer nan some none t = rw (no-equal (of_int binary64 (to_signed 63 nan)))
to-integer (inf true) some none t = unfold to_signed of_int in rw (not_infinite (round binary64 true (2 ^ 63) 1) true true (2 ^ 63) (end-held true))
to-integer (inf false) some none t = unfold to_signed of_int in rw (not_infinite (round binary64 false (2 ^ 63 - 1) 1) false false (2 ^ 63) largest-rounds)
to-integer (fin s m e) some none t = rw (comes_back s m e t) (caseb (eqb r 0 && leb q (2 ^ 63)) (λ c. rw c (inside (and_right (eqb r 0) (leb q (2 ^ 63)) c))) (λ c. rw c))
  where
    q : ℕ
    q = m * up e / down e

    r : ℕ
    r = m * up e % down e

    inside : leb q (2 ^ 63) ≡ true → some (to_signed 63 (fin s m e)) ≡ some (signed s q)
    inside c = let k : min q (2 ^ 63) ≡ q = omega (arith, leb-true q (2 ^ 63) c) in ap some (to_signed-is s m e ∙ ap (signed s) k)

-- ---- the keys
signed-key : (s : Bool) (n : ℕ) → n ≤ 2 ^ 63 → integer (of_z w64 (signed s n)) ≡ whole_key s n
signed-key true zero l = refl
signed-key true (suc n) l = ap integer (omega arith)
signed-key false n l = caseb (eqb n (2 ^ 63)) (λ t. rw t (ap integer (omega (arith, eqb-true n (2 ^ 63) t)))) (λ t. rw t (ap integer (uncapped n l (eqb-false n (2 ^ 63) t))))

-- the zeros are whole: where a Number stays one, the original keeps its bits
bytes : (x : Float) (b : ℕ) → whole_of x ≡ None → canonical_float_bytes x b ≡ b
unfolding eq
bytes nan b h = refl
bytes (inf s) b h = refl
bytes (fin s m e) b h =
    caseb (eq (fin s m e) (fin false 0 (pos 0)))
    (λ t. let k : whole_of (fin s m e) ≡ whole s 0 = of-value (fin s m e) s 0 1 (zero-lt-suc 0) (refl, eqb-true _ _ (and_left _ _ t)) ∙ over-one s 0 (lit≤ tt) in
    never (cc))
    (λ t. rw t)

number-key : (b : ℕ) → original_number_key (of_bits binary64 b) b ≡ number_key b
unfolding original_number_key number_key
number-key b =
    rw (nan_bits_is binary64 b, to-integer x (λ (i : ℤ). integer (of_z w64 i)) (number (canonical_float_bytes x b)) (of_bits-fits binary64 b))
    (ap (λ (k : Words). cond (is_nan x) (Err KeyIsNan) (Ok k)) (go (whole_of x) refl (small x)))
  where
    x : Float
    x = of_bits binary64 b

    go : (w : Option (Bool × ℕ)) → whole_of x ≡ w → Small w → on_whole w (λ (i : ℤ). integer (of_z w64 i)) (number (canonical_float_bytes x b)) ≡ key_of b w
    go (Some (s, n)) e l = signed-key s n l
    go None e l = ap number (bytes x b e)

-- the canonical key is the original's CanonicalKey::new
pub original-key : (w : Words) → original_key w ≡ canonical_key w
unfolding original_key canonical_key
original-key w = rw (number-key w.payload)

-- ---- the array index
nan-not : (x : Float) → is_nan x ≡ true → whole_of x ≡ None
unfolding is_nan whole_of
nan-not nan t = refl
nan-not (inf s) t = clash t refl
nan-not (fin s m e) t = clash t refl

integer-index : (p : ℕ) → from_i64 (to_z w64 p) ≡ array_index (integer p)
unfolding array_index
integer-index zero = refl
integer-index (suc p) =
    caseb (ltb (suc p) (2 ^ 63))
    (λ t. let l : leb (suc p) largest ≡ true = le-leb (suc p) largest (omega (arith, ltb-true (suc p) (2 ^ 63) t)) in rw (t, l, lt-ltb 0 (suc p) (zero-lt-suc p)) (ap Some (omega arith)))
    (λ t. let l : leb (suc p) largest ≡ false = lt-leb (suc p) largest (omega (arith, ltb-false (suc p) (2 ^ 63) t)) in rw (t, l, lt-ltb 0 (suc p) (zero-lt-suc p)))

signed-fits : (s : Bool) (n : ℕ) → n ≤ 2 ^ 63 → SFits w64 (signed s n)
signed-fits true zero l = record { sfits = lit< tt }
signed-fits true (suc n) l = record { sfits = l }
signed-fits false n l = record { sfits = omega arith }

signed-index : (s : Bool) (n : ℕ) → n ≤ 2 ^ 63 → from_i64 (signed s n) ≡ array_index (whole_key s n)
signed-index s n l = ap from_i64 (sym (to_z-of_z (signed-fits s n l))) ∙ integer-index (of_z w64 (signed s n)) ∙ ap array_index (signed-key s n l)

number-index : (b : ℕ) → f64_to_i64 (of_bits binary64 b) from_i64 None ≡ on_key (number_key b) (λ (n : ℕ). None) array_index
unfolding number_key array_index
number-index b =
    to-integer x from_i64 None (of_bits-fits binary64 b)
    ∙ caseb (nan_bits binary64 b) (λ t. rw (t, nan-not x (sym (nan_bits_is binary64 b) ∙ t))) (λ t. rw t (go (whole_of x) (small x)))
  where
    x : Float
    x = of_bits binary64 b

    go : (w : Option (Bool × ℕ)) → Small w → on_whole w from_i64 None ≡ array_index (key_of b w)
    go (Some (s, n)) l = signed-index s n l
    go None l = refl

-- the array index of the canonical key is the original's to_array_index of the value
pub original-index : (w : Words) → original_index w ≡ on_key (canonical_key w) (λ (n : ℕ). None) array_index
unfolding original_index canonical_key
original-index w =
    caseb (eqb w.kind 0)
    (λ t. let p : w.kind ≡ 0 = eqb-true w.kind 0 t in rw p)
    (λ t. caseb (eqb w.kind 3)
    (λ u. let p : w.kind ≡ 3 = eqb-true w.kind 3 u in rw p (number-index w.payload))
    (λ u. rw (t, u) (caseb (eqb w.kind 2) (λ v. unfold array_index in rw v (integer-index w.payload)) (λ v. unfold array_index in rw v))))
