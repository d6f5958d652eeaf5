-- A walk of a store's words to the first pair with a value: where its loops are, and what its answer says. Assumes nothing.
use mathlib.Core.Path.{◌≡◌, sym, ap, subst, ◌∙◌, refl}
use mathlib.Core.Bool.{true, false, cond}
use mathlib.Core.List.{List, [], ◌∷◌, ◌++◌, append-nil}
use Prim.Native.Nat.{ℕ, suc, ◌+◌, ◌-◌, ◌≤◌, ◌<◌}
use native.Mathlib.Omega.{arith}
use lib.Dec.{eqb}
use Rattle.value.specs.declared.Words.{Words}
use Rattle.value.specs.Encoding.{Decodes}
use Rattle.value.specs.Same.{is_nil}
use Rattle.value.specs.Refusals.{key_is_nil, refusal_number}
use Rattle.key.specs.Canonical.{canonical_key}
use Rattle.model.specs.Entries.{Entry, NextValue, found, last, not_found, first, from}
use Rattle.model.specs.Table.{Table, pairs, next_of}
use Rattle.model.specs.Growth.{tabulate}
use Rattle.store.specs.Store.{Store}
use Rattle.store.specs.Shape.{Shaped}
use Rattle.store.specs.Written.{Sound, table_of}
use Rattle.reads.specs.Reads.{in_words, NextAnswers}
use Rattle.std.specs.Prelude.{Ok, Err}
use Rattle.value.specs.declared.refusal.Refusal.{Refusal}
use Rattle.reads.specs.declared.Next.{Next}
use Rattle.value.specs.declared.refusal.Refusal.TheVariants.{KeyIsNil, KeyIsNan, NoRoom, WrongShape, NoValue}

-- ---- the loops: from place i on is what is left of n places, where x is asked for
from-here : {X : Type 0} (f : ℕ → X) (n i : ℕ) → i < n → tabulate (n - i) f i ≡ f i ∷ tabulate (n - (i + 1)) f (i + 1)
from-here f n i h =
    let p : n - i ≡ suc (n - (i + 1)) = omega arith in
    let q : suc i ≡ i + 1 = omega arith in
    ap (λ (m : ℕ). tabulate m f i) p ∙ ap (λ (j : ℕ). f i ∷ tabulate (n - (i + 1)) f j) q

pub record Walking (x : NextValue) (f : ℕ → Entry) (n : ℕ) (rest : List Entry) (i : ℕ) : Type 0 where
  pub inside : i ≤ n
  pub is : x ≡ first (tabulate (n - i) f i ++ rest)

-- with nothing after them
pub walking-alone : (f : ℕ → Entry) (n i : ℕ) → i ≤ n → Walking (first (tabulate (n - i) f i)) f n [] i
walking-alone f n i h = record { inside = h; is = ap first (sym (append-nil (tabulate (n - i) f i))) }

module _ (x : NextValue) (f : ℕ → Entry) (n : ℕ) (rest : List Entry) (i : ℕ) (w : Walking x f n rest i) where
  here : i < n → x ≡ cond (is_nil (f i).value) (first (tabulate (n - (i + 1)) f (i + 1) ++ rest)) (found (f i).key (f i).value)
  here h = w.is ∙ ap (λ (l : List Entry). first (l ++ rest)) (from-here f n i h)

  pub walking-turn : i < n → is_nil (f i).value ≡ true → Walking x f n rest (i + 1)
  walking-turn h e = record { inside = omega arith; is = rw e at (here h) }

  pub walking-found : i < n → is_nil (f i).value ≡ false → x ≡ found (f i).key (f i).value
  walking-found h e = rw e at (here h)

  pub walking-end : n ≤ i → x ≡ first rest
  walking-end h = let p : n - i ≡ 0 = omega arith in w.is ∙ ap (λ (m : ℕ). first (tabulate m f i ++ rest)) p

-- ---- next at a key, at Nil and at NaN
pub next-of : (t : Table) (key k : Words) → canonical_key key ≡ Ok k → next_of t key ≡ from (pairs t) k
unfolding next_of
next-of t key k e = rw e

pub next-nil-key : (t : Table) (key : Words) → canonical_key key ≡ Err KeyIsNil → next_of t key ≡ first (pairs t)
unfolding next_of
next-nil-key t key e = rw e

-- of the reasons, only the first has its number
not-nil : (r : Refusal) → (r ≡ KeyIsNil → ⊥) → eqb (refusal_number r) key_is_nil ≡ false
not-nil KeyIsNil q = absurd (q refl)
not-nil KeyIsNan q = refl
not-nil NoRoom q = refl
not-nil WrongShape q = refl
not-nil NoValue q = refl

pub next-nan-key : (t : Table) (key : Words) (r : Refusal) → canonical_key key ≡ Err r → (r ≡ KeyIsNil → ⊥) → next_of t key ≡ not_found
unfolding next_of
next-nan-key t key r e q = rw (e, not-nil r q)

-- ---- a step n in words is no refusal: where n is the table's, it is what a store of right shape answers
module _ (s : Store) (key : Words) (h : Shaped s) (d : Decodes key) where
  step-answers : (n : NextValue) → (Sound s → next_of (table_of s) key ≡ n) → NextAnswers s key (Ok (in_words n))
  step-answers (found k v) q = (h, d, q)
  step-answers last q = (h, d, q)
  step-answers not_found q = (h, d, q)

  pub next-answers : (n : NextValue) (r : Next Words) → r ≡ in_words n → (Sound s → next_of (table_of s) key ≡ n) → NextAnswers s key (Ok r)
  next-answers n r e q = subst (λ (r : Next Words). NextAnswers s key (Ok r)) (sym e) (step-answers n q)
