-- The length that the original answers is that of the table it stands for, unless it has the largest integer's entry cleared; so where our
-- table has one border only, the two lengths are that border. Assumes nothing.
use mathlib.Core.Path.{◌≡◌, sym, ap, subst, ◌∙◌, fun_ext}
use mathlib.Core.Bool.{Bool, true, false, cond, not, ◌&&◌}
use mathlib.Core.Logic.{◌⊎◌, inl, inr}
use Prim.Native.Nat.{ℕ, zero, suc, pred, ◌+◌, ◌≤◌, ◌<◌}
use native.Mathlib.Nat.{not-suc-le-zero}
use native.Mathlib.Omega.{arith}
use lib.Dec.{eqb, leb}
use lib.ListN.{length, get_or, length-map}
use borrow.Author.Tests.{eq-eqb, not-true}
use Rattle.value.specs.declared.Words.{Words}
use Rattle.value.specs.Same.{nil, is_nil}
use Rattle.value.proofs.Cases.{caseb, clash, iff, and_right}
use Rattle.key.specs.Canonical.{integer, largest}
use Rattle.model.specs.Entries.{has, find}
use Rattle.model.specs.Table.{Room, Table, lookup, get_of}
use Rattle.model.specs.Length.{nil_at, double, length_of}
use Rattle.model.specs.WellFormed.{WellFormed}
use Rattle.model.specs.Manual.{Border, OneBorder}
use Rattle.model.proofs.Array.{outside-integer, lookup-outside}
use Rattle.model.proofs.Border.{halve-cong, Doubled, double-is, get-integer, past-array, in_array, border-of, only-border}
use Rattle.original.specs.Original.{Addresses, has_cell, find_cell, original_length}
use Rattle.original.specs.Agreement.{ClearedLargest}
use Rattle.original.proofs.Cells.{cell_of, cells_of, original_of, has_cell-of, find_cell-of}
use Rattle.original.proofs.Right.{Right}

module _ (addresses : Addresses) (t : Table) (s : Right t) where
  -- the tests for Nil and for an entry
  in_place : (n : ℕ) → 0 < n → n < length t.array → is_nil (get_or t.array (pred n) nil) ≡ nil_at t n
  in_place zero h g = absurd (not-suc-le-zero h)
  in_place (suc n) h g = ap is_nil (sym (in_array t n (omega arith) (omega (arith, s.in_range))))

  past-it : (n : ℕ) → length t.array < n → n ≤ largest → is_nil (find t.entries (integer n)) ≡ nil_at t n
  past-it zero h g = absurd (not-suc-le-zero h)
  past-it (suc n) h g = ap is_nil (sym (lookup-outside t (integer (suc n)) (outside-integer (length t.array) n (omega arith))))

  -- where doubling ends at a key that is there, that is the largest integer, with a value
  ends : (hi : ℕ) → Doubled (λ n. has t.entries (integer n)) (length t.array + 1) hi
      → (hi ≡ largest → has t.entries (integer hi) ≡ true → is_nil (find t.entries (integer hi)) ≡ true → ⊥)
      → has t.entries (integer hi) ≡ (eqb hi largest && not (nil_at t hi))
  ends hi d c = iff (has t.entries (integer hi)) (eqb hi largest && not (nil_at t hi)) (to d.stops) (back hi d.low)
    where
      to : (has t.entries (integer hi) ≡ false) ⊎ (hi ≡ largest) → has t.entries (integer hi) ≡ true → (eqb hi largest && not (nil_at t hi)) ≡ true
      to (inl f) y = clash y f
      to (inr p) y =
          caseb (nil_at t hi)
          (λ z. absurd (c p y (past-it hi (omega (arith, d.low)) d.high ∙ z)))
          (λ z. rw (eq-eqb hi largest p, z))

      back : (n : ℕ) → length t.array + 1 ≤ n → (eqb n largest && not (nil_at t n)) ≡ true → has t.entries (integer n) ≡ true
      back zero l y = absurd (not-suc-le-zero {n = 0} (omega arith))
      back (suc n) l y =
          caseb (has t.entries (integer (suc n)))
          (λ f. f)
          (λ f. clash (past-array t n (omega arith) f) (not-true (nil_at t (suc n)) (and_right (eqb (suc n) largest) (not (nil_at t (suc n))) y)))

  has_cells : ◌≡◌ {A = ℕ → Bool} (λ n. has_cell addresses (cells_of addresses t.entries) (integer n)) (λ n. has t.entries (integer n))
  has_cells = fun_ext (λ n. has_cell-of addresses t.entries (integer n))

  nil-cells : ◌≡◌ {A = ℕ → Bool} (λ n. is_nil (find_cell addresses (cells_of addresses t.entries) (integer n))) (λ n. is_nil (find t.entries (integer n)))
  nil-cells = fun_ext (λ n. ap is_nil (find_cell-of addresses t.entries (integer n)))

  pub original-length : (ClearedLargest addresses (original_of addresses t) → ⊥) → original_length addresses (original_of addresses t) ≡ length_of t
  unfolding original_length length_of
  original-length x =
      rw (has_cells, nil-cells, length-map t.entries (cell_of addresses))
      (caseb (leb 1 A && is_nil (get_or t.array (pred A) nil))
      (λ b. rw b (halve-cong (λ n. is_nil (get_or t.array (pred n) nil)) (nil_at t) 64 0 A in_place))
      (λ b. rw b (caseb (eqb (length t.entries) 0)
      (λ e. rw e)
      (λ e. rw (e, has_cell-of addresses t.entries (integer hi), ends hi dd (cleared b e)) (ap (cond (eqb hi largest && not (nil_at t hi)) hi) (halve-cong (λ n. is_nil (find t.entries (integer n))) (nil_at t) 64 A hi (λ n h g. past-it n h (omega (arith, dd.high)))))))))
    where
      A : ℕ
      A = length t.array

      hi : ℕ
      hi = double (λ n. has t.entries (integer n)) 64 (A + 1)

      dd : Doubled (λ n. has t.entries (integer n)) (A + 1) hi
      dd = double-is (λ n. has t.entries (integer n)) 64 0 (A + 1) (omega arith) (omega arith) (omega (arith, s.in_range)) (inl (omega arith))

      cleared : (leb 1 A && is_nil (get_or t.array (pred A) nil)) ≡ false → eqb (length t.entries) 0 ≡ false → hi ≡ largest → has t.entries (integer hi) ≡ true → is_nil (find t.entries (integer hi)) ≡ true → ⊥
      cleared b e p h z = x (
        rw (has_cells, length-map t.entries (cell_of addresses), b, e, has_cell-of addresses t.entries (integer hi), h) p,
        has_cell-of addresses t.entries (integer largest) ∙ subst (λ (n : ℕ). has t.entries (integer n) ≡ true) p h,
        ap is_nil (find_cell-of addresses t.entries (integer largest)) ∙ subst (λ (n : ℕ). is_nil (find t.entries (integer n)) ≡ true) p z,
      )

-- the border of one table is a border of the other where their gets are the same
carried-border : (t u : Table) (n : ℕ) → ((j : Words) → lookup t j ≡ lookup u j) → Border u n → Border t n
carried-border t u n h b = record { range = b.range; lower = low b.lower; upper = up b.upper }
  where
    at : (m : ℕ) → is_nil (get_of t (integer m)) ≡ is_nil (get_of u (integer m))
    at m = ap is_nil (get-integer t m ∙ h (integer m) ∙ sym (get-integer u m))

    low : (n ≡ 0) ⊎ (is_nil (get_of u (integer n)) ≡ false) → (n ≡ 0) ⊎ (is_nil (get_of t (integer n)) ≡ false)
    low (inl p) = inl p
    low (inr p) = inr (at n ∙ p)

    up : (n ≡ largest) ⊎ (is_nil (get_of u (integer (suc n))) ≡ true) → (n ≡ largest) ⊎ (is_nil (get_of t (integer (suc n))) ≡ true)
    up (inl p) = inl p
    up (inr p) = inr (at (suc n) ∙ p)

pub same_length : (addresses : Addresses) {room : Room} (t u : Table) → WellFormed room t → Right u → ((j : Words) → lookup t j ≡ lookup u j)
    → OneBorder t → (ClearedLargest addresses (original_of addresses u) → ⊥) → length_of t ≡ original_length addresses (original_of addresses u)
same_length addresses t u w s h one c =
    only-border t (length_of u) w one (carried-border t u (length_of u) h (border-of u s.in_range)) ∙ sym (original-length addresses u s c)
