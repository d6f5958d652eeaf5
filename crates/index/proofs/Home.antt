-- Laws of a key's home and of the ring of an index's places. Assumes nothing.
use Rattle.std.proofs.Common.{◌≡◌, ℕ, ◌+◌, ◌<◌, ⊎_elim, mod-lt, eq-or-lt_of_le, arith, eq-eqb, ne_eqb}
use Rattle.value.specs.declared.Words.{Words}
use Rattle.index.specs.Home.{mixed, home_of, next_place}

-- ---- the home
pub home-lt : (n : ℕ) (k : Words) → 0 < n → home_of n k < n
unfolding home_of
home-lt n k h = mod-lt (mixed k) h

-- ---- the ring
pub next_up : (n j : ℕ) → j + 1 < n → next_place n j ≡ j + 1
unfolding next_place
next_up n j h = rw (ne_eqb (j + 1) n (λ e. omega arith))

pub next-wrap : (n j : ℕ) → j + 1 ≡ n → next_place n j ≡ 0
unfolding next_place
next-wrap n j h = rw (eq-eqb (j + 1) n h)

pub next-lt : (n j : ℕ) → j < n → next_place n j < n
next-lt n j h =
    ⊎_elim
    (λ e. rw (next-wrap n j (omega arith)) (omega arith))
    (λ l. rw (next_up n j (omega arith)) (omega arith))
    (eq-or-lt_of_le h)
