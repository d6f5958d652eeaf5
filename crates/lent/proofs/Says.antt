-- What a test says, and a loop that tests every place in turn. Assumes nothing.
use mathlib.Core.Path.{◌≡◌, refl, sym, subst, ◌∙◌}
use mathlib.Core.Bool.{Bool, true, false, true≢false}
use mathlib.Core.Logic.{⊎_elim}
use Prim.Native.Nat.{ℕ, ◌+◌, ◌<◌, zero-le}
use native.Mathlib.Nat.{not-suc-le-zero, eq-or-lt_of_le, zero-add}
use native.Mathlib.Omega.{arith}
use Rattle.std.specs.Bool.{MatchBool}
use Rattle.std.specs.Fn.{Called, Mut}
use Rattle.std.specs.Iterator.{ChecksAll}
use Rattle.std.specs.List.{range_with_len, AllWithin, HoldsAt}
use Rattle.std.specs.declared.ops.Range.{Range}
use Rattle.std.proofs.iter.Yields.{nat_range_steps}
use Rattle.std.proofs.lemmas.Iterator.{cases_from_all, YieldsList-from_range}
use Rattle.std.proofs.lemmas.List.FromFn.{get_or-range_with_len, length-range_with_len}
use Rattle.value.proofs.Cases.{clash, iff}
use Rattle.lent.specs.Says.{Says}

pub says-yes : {X : Type 0} → X → Says true X
says-yes x = record { only = λ e. x; whenever = λ y. refl }

pub says-no : {X : Type 0} → (X → ⊥) → Says false X
says-no f = record { only = λ e. absurd (true≢false (sym e)); whenever = λ x. absurd (f x) }

-- what a test says of one thing, it says of another that is the same
pub says_same : {X Y : Type 0} {r : Bool} → (X → Y) → (Y → X) → Says r X → Says r Y
says_same f g s = record { only = λ e. f (s.only e); whenever = λ y. s.whenever (g y) }

-- one answer only
pub says-one : {X : Type 0} (r r' : Bool) → Says r X → Says r' X → r ≡ r'
says-one r r' s t = iff r r' (λ e. t.whenever (s.only e)) (λ e. s.whenever (t.only e))

-- what was said where code tests `!r`
pub said-no : {X : Type 0} {r : Bool} → Says r X → r ≡ false → X → ⊥
said-no s e x = clash (s.whenever x) e

pub said-yes : {X : Type 0} {r : Bool} → Says r X → r ≡ true → X
said-yes s e = s.only e

-- before a loop nothing is below its start; a turn adds the place that it tested
pub none_below : (P : ℕ → Type 0) (i : ℕ) → i < 0 → P i
none_below P i h = absurd (not-suc-le-zero h)

pub one_more : (P : ℕ → Type 0) (n : ℕ) → ((i : ℕ) → i < n → P i) → P n → (i : ℕ) → i < n + 1 → P i
one_more P n all p i h = ⊎_elim (λ e. rw e p) (λ l. all i l) (eq-or-lt_of_le {n = i} {m = n} (omega arith))

-- what `all` says over the numbers below n, where the closure says of each whether P holds
says_below : (n : ℕ) (P : ℕ → Type 0) (r : Bool)
    → MatchBool r (AllWithin P (range_with_len 0 n) 0 n) ((k : ℕ) × (k < n) × HoldsAt (λ i. P i → ⊥) (range_with_len 0 n) k)
    → Says r ((i : ℕ) → i < n → P i)
says_below n P true h = says-yes (λ i l. subst P (get_or-range_with_len 0 n i 0 l ∙ zero-add i) (h i 0 zero-le l))
says_below n P false (k, l, h) = says-no (λ all. h 0 (subst P (sym (get_or-range_with_len 0 n k 0 l ∙ zero-add k)) (all k l)))

pub says_all : {F : Type 0} {g : Mut F (ℕ × Unit {0}) Bool} {s u : Range ℕ} {f : F} {r : Bool} (n : ℕ) (P : ℕ → Type 0)
    → ChecksAll nat_range_steps g s f r u → s ≡ record { start = 0; end = n }
    → ((x : ℕ) (b : Bool) (q : F) → Called g f (x, tt) b q → (q ≡ f) × Says b (P x)) → Says r ((i : ℕ) → i < n → P i)
says_all {u = u} {f = f} {r = r} n P ran e turn =
    says_below n P r
    (rw length-range_with_len at
    (cases_from_all u f r P (λ i. P i → ⊥) ran (YieldsList-from_range 0 n n e (omega arith))
    (λ x q k. let t = turn x true q k in (t.0, t.1.only refl))
    (λ x q k p. clash ((turn x false q k).1.whenever p) refl)))
