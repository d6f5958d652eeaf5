-- The size by class counts, class after class: the total is what lies below half of a power of two, and the size is the best below that power.
-- Assumes nothing.
use Rattle.std.proofs.Common.{◌≡◌, ℕ, zero, suc, ◌+◌, ◌/◌, ◌^◌, cond, ◌&&◌, List, [], ◌∷◌, refl, ap, leb, ltb, add-one, arith}
use Rattle.std.proofs.lemmas.Bool.Decides.{nat_tests}
use Rattle.model.specs.Growth.{count_below, tally, best}
use Rattle.model.proofs.Size.{classes}
use Rattle.growth.proofs.Ranges.{half}

below_none : (l : List ℕ) → count_below 0 l ≡ 0
below_none [] = refl
below_none (i ∷ l) = grind (arith, nat_tests, below_none l)

-- a class is what lies below a power of two and not below its half
below-class : (l : List ℕ) (c : ℕ) → count_below (2 ^ c) l ≡ count_below (2 ^ c / 2) l + tally c l
below-class l zero = omega (arith, classes l 0, below_none l)
below-class l (suc c) = rw (rw add-one at (half c)) (omega (arith, classes l c, classes l (suc c)))

-- after the classes below i
pub record Sized (l : List ℕ) (room i size total : ℕ) : Type 0 where
  pub sum : total ≡ count_below (2 ^ i / 2) l
  pub is : size ≡ best (λ S. count_below S l) room i

pub sized-none : (l : List ℕ) (room : ℕ) → Sized l room 0 0 0
unfolding best
sized-none l room = record { sum = omega (arith, below_none l); is = refl }

pub sized-turn : {l : List ℕ} {room i size total : ℕ} (n : ℕ) → n ≡ tally i l → Sized l room i size total
    → Sized l room (i + 1) (cond (leb (2 ^ i) room && ltb (2 ^ i / 2) (total + n)) (2 ^ i) size) (total + n)
unfolding best
sized-turn {l} {room} {i} {size} {total} n q s =
    let all : total + n ≡ count_below (2 ^ i) l = omega (arith, below-class l i, s.sum) in
    record { sum = rw (half i) all; is = rw (add-one i, all) (ap (cond (leb (2 ^ i) room && ltb (2 ^ i / 2) (count_below (2 ^ i) l)) (2 ^ i)) s.is) }
