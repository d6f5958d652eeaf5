-- A refusal's number is none of a call that was done, and no two refusals have one. Assumes nothing.
use Rattle.std.proofs.Common.{◌≡◌, ℕ, ◌<◌, refl, ap, ◌∙◌, sym, arith, Bool, true, false}
use lib.Dec.{eqb}
use Rattle.value.specs.declared.refusal.Refusal.{Refusal}
use Rattle.value.specs.declared.refusal.Refusal.TheVariants.{KeyIsNil, KeyIsNan, NoRoom, WrongShape, NoValue}
use Rattle.value.specs.Refusals.{refusal_number}

pub numbered : (e : Refusal) → 0 < refusal_number e
numbered KeyIsNil = omega arith
numbered KeyIsNan = omega arith
numbered NoRoom = omega arith
numbered WrongShape = omega arith
numbered NoValue = omega arith

-- the refusal that has a number
by_number : ℕ → Refusal
by_number n = elim (eqb n 1) [ true ↦ KeyIsNil | false ↦ elim (eqb n 2) [ true ↦ KeyIsNan | false ↦ elim (eqb n 3) [ true ↦ NoRoom | false ↦ elim (eqb n 4) [ true ↦ WrongShape | false ↦ NoValue ] ] ] ]

by_its_number : (e : Refusal) → by_number (refusal_number e) ≡ e
unfolding by_number
by_its_number KeyIsNil = refl
by_its_number KeyIsNan = refl
by_its_number NoRoom = refl
by_its_number WrongShape = refl
by_its_number NoValue = refl

pub number-one : (e f : Refusal) → refusal_number e ≡ refusal_number f → e ≡ f
number-one e f h = sym (by_its_number e) ∙ ap by_number h ∙ by_its_number f
