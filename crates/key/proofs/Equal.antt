-- When two floats compare equal, by their values. Assumes nothing.
use mathlib.Core.Path.{◌≡◌, sym, ◌∙◌}
use mathlib.Core.Bool.{Bool}
use Prim.Native.Nat.{ℕ, ◌*◌, ◌<◌}
use native.Mathlib.Nat.{zero-mul, le_antisymm, le_of_eq}
use borrow.Author.Tests.{eq-eqb, eqb-true}
use lib.Dec.{eqb}
use lib.Ieee.{Float, nan, inf, fin, up, down, eq, level}
use lib.Ieee.Exact.{HasValue}
use lib.Ieee.Fits.{down_pos}
use lib.Ieee.Order.{transfer}
use Rattle.value.proofs.Cases.{iff}

-- x / p is a / c and y / q is b / d: they are equal, or not, together
cross : (x y p q a b c d : ℕ) → 0 < p → 0 < q → x * c ≡ a * p → y * d ≡ b * q → x * q ≡ y * p → a * d ≡ b * c
cross x y p q a b c d P Q h k e =
    le_antisymm (transfer a b c d x y p q P Q (sym h) (sym k) (le_of_eq e)) (transfer b a d c y x q p Q P (sym k) (sym h) (le_of_eq (sym e)))

tests : (x y p q a b c d : ℕ) → 0 < p → 0 < q → 0 < c → 0 < d → x * c ≡ a * p → y * d ≡ b * q → eqb (x * q) (y * p) ≡ eqb (a * d) (b * c)
tests x y p q a b c d P Q C D h k =
    iff (eqb (x * q) (y * p)) (eqb (a * d) (b * c))
    (λ t. eq-eqb _ _ (cross x y p q a b c d P Q h k (eqb-true _ _ t)))
    (λ t. eq-eqb _ _ (cross a b c d x y p q C D (sym h) (sym k) (eqb-true _ _ t)))

-- ±a / c and ±b / d
pub eq-values : (x y : Float) (s t : Bool) (a c b d : ℕ) → 0 < c → 0 < d → HasValue x s a c → HasValue y t b d → eq x y ≡ level s (a * d) t (b * c)
unfolding eq
eq-values nan y s t a c b d C D v w = absurd v
eq-values (inf r) y s t a c b d C D v w = absurd v
eq-values (fin r m e) nan s t a c b d C D v w = absurd w
eq-values (fin r m e) (inf u) s t a c b d C D v w = absurd w
eq-values (fin r m e) (fin u n g) s t a c b d C D v w =
    let first : eqb (m * up e * down g) (n * up g * down e) ≡ eqb (a * d) (b * c) = tests (m * up e) (n * up g) (down e) (down g) a b c d (down_pos e) (down_pos g) C D v.1 w.1 in
    let second : eqb (m * up e * down g) 0 ≡ eqb (a * d) 0 = simp zero-mul at (tests (m * up e) 0 (down e) (down g) a 0 c d (down_pos e) (down_pos g) C D v.1 (zero-mul d ∙ sym (zero-mul (down g)))) in
    rw (first, second, v.0, w.0)
