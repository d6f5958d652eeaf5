-- The length that a table answers (01, 'Border'). Both searches end within 64 rounds: the fuel never runs out. Assumes nothing.
use Rattle.std.specs.Prelude.{Bool, cond, ◌&&◌, not, ℕ, zero, suc, pred, ◌+◌, ◌-◌, ◌*◌, ◌/◌, min, eqb, leb, ltb, length, get_or}
use Rattle.value.specs.Same.{nil, is_nil}
use Rattle.key.specs.Canonical.{integer, largest}
use Rattle.model.specs.Entries.{has}
use Rattle.model.specs.Table.{Table, lookup}

abbrev pub nil_at : Table → ℕ → Bool
nil_at t n = is_nil (lookup t (integer n))

-- halving: a Nil in the middle moves the upper end, else the lower one
unfoldable pub halve : (ℕ → Bool) → ℕ → ℕ → ℕ → ℕ
halve is_nil_at zero lo hi = lo
halve is_nil_at (suc d) lo hi =
    let mid : ℕ = lo + (hi - lo) / 2 in
    let down : ℕ = halve is_nil_at d lo mid in
    let up : ℕ = halve is_nil_at d mid hi in
    let half : ℕ = cond (is_nil_at mid) down up in
    cond (ltb 1 (hi - lo)) half lo

-- doubling from hi: on past each number that has an entry, cleared or not, up to the largest integer
unfoldable pub double : (ℕ → Bool) → ℕ → ℕ → ℕ
double is_there zero hi = hi
double is_there (suc d) hi =
    let further : ℕ = double is_there d (min largest (2 * hi)) in
    cond (is_there hi && ltb hi largest) further hi

unfoldable pub length_of : Table → ℕ
length_of t =
    let A = length t.array in
    cond (leb 1 A && is_nil (get_or t.array (pred A) nil))
    (halve (nil_at t) 64 0 A)
    (cond (eqb (length t.entries) 0)
    A
    (let hi = double (λ n. has t.entries (integer n)) 64 (A + 1) in
    cond (eqb hi largest && not (nil_at t hi)) hi (halve (nil_at t) 64 A hi)))
