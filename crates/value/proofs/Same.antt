-- `same` decides equality of stored values. Assumes nothing.
use mathlib.Core.Path.{◌≡◌, refl, sym, ◌∙◌}
use mathlib.Core.Bool.{true, false, not, true≢false}
use lib.Dec.{eqb}
use borrow.Author.Tests.{eqb-true, eq-eqb, not-false}
use Rattle.value.specs.declared.Words.{Words}
use Rattle.value.specs.Same.{same, nil, is_nil}
use Rattle.value.proofs.Cases.{caseb, and_left, and_right}

pub same-eq : (a b : Words) → same a b ≡ true → a ≡ b
unfolding same
same-eq a b t =
    let p : a.kind ≡ b.kind = eqb-true a.kind b.kind (and_left (eqb a.kind b.kind) (eqb a.payload b.payload) t) in
    let q : a.payload ≡ b.payload = eqb-true a.payload b.payload (and_right (eqb a.kind b.kind) (eqb a.payload b.payload) t) in
    λ i. record { kind = p i; payload = q i }

pub same_refl : (a : Words) → same a a ≡ true
unfolding same
same_refl a = rw (eq-eqb a.kind a.kind refl, eq-eqb a.payload a.payload refl)

pub eq-same : (a b : Words) → a ≡ b → same a b ≡ true
eq-same a b p = rw p (same_refl b)

pub same-ne : (a b : Words) → same a b ≡ false → a ≡ b → ⊥
same-ne a b e p = true≢false (sym (eq-same a b p) ∙ e)

pub ne_same : (a b : Words) → (a ≡ b → ⊥) → same a b ≡ false
ne_same a b h = caseb (same a b) (λ e. absurd (h (same-eq a b e))) (λ e. e)

pub same-sym : (a b : Words) → same a b ≡ false → same b a ≡ false
same-sym a b e = ne_same b a (λ p. same-ne a b e (sym p))

pub not_live : (v : Words) → not (is_nil v) ≡ false → v ≡ nil
not_live v e = same-eq v nil (not-false (is_nil v) e)
