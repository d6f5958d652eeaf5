-- The loops of halving and doubling against the definitions, which count their rounds: where a loop is, some rounds are left that give x,
-- what is asked for. Assumes nothing.
use mathlib.Core.Path.{◌≡◌, refl, sym, ap, ◌∙◌}
use mathlib.Core.Bool.{Bool, true, false, cond}
use mathlib.Core.Logic.{◌⊎◌, inl, inr}
use Prim.Native.Nat.{ℕ, zero, suc, ◌+◌, ◌-◌, ◌*◌, ◌/◌, ◌^◌, ◌≤◌, ◌<◌, min}
use native.Mathlib.Nat.{not-suc-le-zero}
use native.Mathlib.Omega.{arith}
use lib.Dec.{leb}
use borrow.Author.Tests.{leb-true, leb-false, lt-ltb, le-ltb}
use Rattle.value.proofs.Cases.{caseb}
use Rattle.key.specs.Canonical.{largest}
use Rattle.model.specs.Length.{halve, double}

-- ---- halving between lo and hi
pub record Halving (f : ℕ → Bool) (x lo hi : ℕ) : Type 0 where
  pub rounds : ℕ
  pub near : hi - lo ≤ 2 ^ rounds
  pub is : x ≡ halve f rounds lo hi

module _ (f : ℕ → Bool) (x : ℕ) where
  pub halving-start : (lo hi : ℕ) → hi < 2 ^ 64 → x ≡ halve f 64 lo hi → Halving f x lo hi
  halving-start lo hi h p = record { rounds = 64; near = omega arith; is = p }

  -- a Nil in the middle, or none: b says which
  pub halving-turn : (lo hi : ℕ) (b : Bool) → 1 < hi - lo → f (lo + (hi - lo) / 2) ≡ b → Halving f x lo hi
      → Halving f x (cond b lo (lo + (hi - lo) / 2)) (cond b (lo + (hi - lo) / 2) hi)
  unfolding halve
  halving-turn lo hi b h e w = turn w.rounds w.near w.is b e
    where
      mid : ℕ
      mid = lo + (hi - lo) / 2

      half : (d : ℕ) → x ≡ halve f (suc d) lo hi → x ≡ cond (f mid) (halve f d lo mid) (halve f d mid hi)
      half d p = p ∙ rw (lt-ltb 1 (hi - lo) h)

      turn : (d : ℕ) → hi - lo ≤ 2 ^ d → x ≡ halve f d lo hi → (b : Bool) → f mid ≡ b → Halving f x (cond b lo mid) (cond b mid hi)
      turn zero n p b e = absurd (not-suc-le-zero {n = 0} (omega arith))
      turn (suc d) n p true e = record { rounds = d; near = omega arith; is = rw e at (half d p) }
      turn (suc d) n p false e = record { rounds = d; near = omega arith; is = rw e at (half d p) }

  pub halving-end : (lo hi : ℕ) → hi - lo ≤ 1 → Halving f x lo hi → x ≡ lo
  unfolding halve
  halving-end lo hi h w = w.is ∙ done w.rounds
    where
      done : (d : ℕ) → halve f d lo hi ≡ lo
      done zero = refl
      done (suc d) = rw (le-ltb 1 (hi - lo) h)

-- ---- doubling from hi, after some rounds: 64 of them reach the largest integer
pub record Doubling (g : ℕ → Bool) (x hi : ℕ) : Type 0 where
  pub passed : ℕ
  pub rounds : ℕ
  pub all : passed + rounds ≡ 64
  pub far : (2 ^ passed ≤ hi) ⊎ (hi ≡ largest)
  pub is : x ≡ double g rounds hi

module _ (g : ℕ → Bool) (x : ℕ) where
  pub doubling-start : (hi : ℕ) → 0 < hi → x ≡ double g 64 hi → Doubling g x hi
  doubling-start hi h p = record { passed = 0; rounds = 64; all = refl; far = inl h; is = p }

  pub doubling-turn : (hi next : ℕ) → next ≡ min largest (2 * hi) → hi < largest → g hi ≡ true → Doubling g x hi → Doubling g x next
  unfolding double
  doubling-turn hi next q h e w = turn w.rounds w.all w.far w.is
    where
      c : ℕ
      c = w.passed

      further : (2 ^ c ≤ hi) ⊎ (hi ≡ largest) → (2 ^ suc c ≤ next) ⊎ (next ≡ largest)
      further (inl y) = caseb (leb largest (2 * hi)) (λ b. inr (omega (arith, leb-true largest (2 * hi) b))) (λ b. inl (omega (arith, leb-false largest (2 * hi) b)))
      further (inr y) = absurd (not-suc-le-zero {n = 0} (omega arith))

      never-out : c ≡ 64 → (2 ^ c ≤ hi) ⊎ (hi ≡ largest) → ⊥
      never-out z (inl y) = let big : 2 ^ 64 ≤ hi = rw z at y in omega arith
      never-out z (inr y) = omega arith

      turn : (d : ℕ) → c + d ≡ 64 → (2 ^ c ≤ hi) ⊎ (hi ≡ largest) → x ≡ double g d hi → Doubling g x next
      turn zero a y p = absurd (never-out (omega arith) y)
      turn (suc d) a y p =
          record { passed = suc c; rounds = d; all = omega arith; far = further y; is = p ∙ rw (e, lt-ltb hi largest h) (ap (double g d) (sym q)) }

  pub doubling-end : (hi : ℕ) → (g hi ≡ false) ⊎ (largest ≤ hi) → Doubling g x hi → x ≡ hi
  unfolding double
  doubling-end hi s w = w.is ∙ done w.rounds s
    where
      done : (d : ℕ) → (g hi ≡ false) ⊎ (largest ≤ hi) → double g d hi ≡ hi
      done zero y = refl
      done (suc d) (inl e) = rw e
      done (suc d) (inr h) = caseb (g hi) (λ b. rw (b, le-ltb hi largest h)) (λ b. rw b)
