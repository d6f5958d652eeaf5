-- The order of the original's map does not matter: however its cells are shuffled, they are the cells of entries in that order, with the same
-- keys, each once, and the same values. Assumes nothing.
use mathlib.Core.Path.{◌≡◌, refl, sym, ap, ap₂, ◌∙◌}
use mathlib.Core.Bool.{Bool, true, false, cond, ◌||◌, true≢false}
use mathlib.Core.List.{List, [], ◌∷◌, map}
use Rattle.value.specs.declared.Words.{Words}
use Rattle.value.specs.Same.{same}
use Rattle.value.proofs.Cases.{caseb, clash, never}
use Rattle.value.proofs.Same.{same-eq, eq-same, same-sym}
use Rattle.model.specs.Entries.{Entry, keys_of, distinct, has, find, Each}
use Rattle.original.specs.Runs.{Shuffled, still, swapped, under, then}

pub shuffled-each : {X : Type 0} {l m : List X} (P : X → Type 0) → Shuffled l m → Each P l → Each P m
shuffled-each P still a = a
shuffled-each P (swapped x y) a = (a.1.0, (a.0, a.1.1))
shuffled-each P (under c s) a = (a.0, shuffled-each P s a.1)
shuffled-each P (then s t) a = shuffled-each P t (shuffled-each P s a)

-- what comes of shuffling the values of a function are its values of the same, shuffled
pub shuffled-map : {X Y : Type 0} {l m : List Y} (f : X → Y) → Shuffled l m → (xs : List X) → l ≡ map f xs → (ys : List X) × (m ≡ map f ys) × Shuffled xs ys
shuffled-map f still xs p = (xs, p, still)
shuffled-map f (swapped a b) [] p = never (cc)
shuffled-map f (swapped a b) (x ∷ []) p = never (cc)
shuffled-map f (swapped a b) (x ∷ y ∷ xs) p = (y ∷ x ∷ xs, cc, swapped x y)
shuffled-map f (under c s) [] p = never (cc)
shuffled-map {Y = Y} f (under {l = l} {m = m} c s) (x ∷ xs) p =
    let here : c ≡ f x = cc in
    let there : l ≡ map f xs = cc in
    let rest = shuffled-map f s xs there in
    (x ∷ rest.0, ap₂ {C = List Y} (λ a b. a ∷ b) here rest.1, under x rest.2)
shuffled-map f (then s t) xs p =
    let first = shuffled-map f s xs p in
    let rest = shuffled-map f t first.0 first.1 in
    (rest.0, rest.1, then first.2 rest.2)

or_swap : (a b c : Bool) → (a || (b || c)) ≡ (b || (a || c))
or_swap true true c = refl
or_swap true false c = refl
or_swap false b c = refl

pub shuffled-has : {l m : List Entry} → Shuffled l m → (k : Words) → has l k ≡ has m k
shuffled-has still k = refl
shuffled-has (swapped {l = l} a b) k = or_swap (same a.key k) (same b.key k) (has l k)
shuffled-has (under c s) k = ap (λ (b : Bool). same c.key k || b) (shuffled-has s k)
shuffled-has (then s t) k = shuffled-has s k ∙ shuffled-has t k

pub shuffled-apart : {l m : List Entry} → Shuffled l m → distinct (keys_of l) → distinct (keys_of m)
shuffled-apart still d = d
shuffled-apart (swapped {l = l} a b) d = two (same b.key a.key) refl d.0
  where
    two : (x : Bool) → same b.key a.key ≡ x → (x || has l a.key) ≡ false → distinct (keys_of (b ∷ a ∷ l))
    two true e h = clash refl h
    two false e h = (rw (same-sym b.key a.key e) d.1.0, (h, d.1.1))
shuffled-apart (under c s) d = (sym (shuffled-has s c.key) ∙ d.0, shuffled-apart s d.1)
shuffled-apart (then s t) d = shuffled-apart t (shuffled-apart s d)

pub shuffled-find : {l m : List Entry} → Shuffled l m → distinct (keys_of l) → (k : Words) → find l k ≡ find m k
shuffled-find still d k = refl
shuffled-find (swapped {l = l} a b) d k =
    caseb (same a.key k)
    (λ e. caseb (same b.key k)
    (λ f. absurd (true≢false (rw (eq-same b.key a.key (same-eq b.key k f ∙ sym (same-eq a.key k e))) at d.0)))
    (λ f. rw (e, f)))
    (λ e. rw e)
shuffled-find (under c s) d k = ap (λ (x : Words). cond (same c.key k) c.value x) (shuffled-find s d.1 k)
shuffled-find (then s t) d k = shuffled-find s d k ∙ shuffled-find t (shuffled-apart s d) k
