-- A step of a walker leaves nothing open: on a sound store, and where the shape is wrong, its promise determines the answer and the walker.
-- Assumes nothing.
use mathlib.Core.Path.{◌≡◌, sym, ap, ◌∙◌}
use mathlib.Core.Logic.{◌⊎◌, inl, inr}
use Rattle.value.proofs.Cases.{caseb}
use Rattle.store.specs.Store.{Store}
use Rattle.store.specs.Shape.{Shaped}
use Rattle.store.specs.Written.{Sound}
use Rattle.store.proofs.Sound.{sound-shaped}
use Rattle.table.proofs.Readings.{next-unique}
use Rattle.iter.specs.declared.Walker.{Walker}
use Rattle.iter.specs.declared.Stepped.{Stepped}
use Rattle.iter.specs.Walker.{advanced, WalkerSteps}

pub step-unique : (s : Store) → Sound s ⊎ (Shaped s → ⊥) → (w : Walker) (r r' : Stepped) → WalkerSteps s w r → WalkerSteps s w r' → r ≡ r'
step-unique s (inr h) w r r' p q = p.wrong h ∙ sym (q.wrong h)
step-unique s (inl S) w r r' p q =
    caseb w.done
    (λ d. let h = sound-shaped s S in p.done h d ∙ sym (q.done h d))
    (λ d. let a = p.goes d in let b = q.goes d in a.2 ∙ ap (advanced w) (next-unique s (inl S) w.key a.0 b.0 a.1 b.1) ∙ sym b.2)
