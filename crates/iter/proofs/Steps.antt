-- A step of a walker, by each way through it: refused at its end, at its end, and as `next` answers. Assumes nothing.
use mathlib.Core.Path.{◌≡◌, refl, sym, ap, ◌∙◌}
use mathlib.Core.Bool.{Bool, true, false}
use Rattle.std.specs.Prelude.{None, Result, Ok}
use Rattle.value.specs.declared.Value.{Value}
use Rattle.value.specs.declared.refusal.Refusal.{Refusal}
use Rattle.value.specs.declared.refusal.Refusal.TheVariants.{WrongShape}
use Rattle.value.specs.Encoding.{encoded}
use Rattle.value.proofs.Cases.{clash}
use Rattle.store.specs.Store.{Store}
use Rattle.store.specs.Shape.{Shaped}
use Rattle.reads.specs.declared.Next.{Next}
use Rattle.reads.proofs.Unique.{next-refused}
use Rattle.table.specs.Values.{next_value_of, NextOfValue}
use Rattle.iter.specs.declared.Walker.{Walker}
use Rattle.iter.specs.declared.Stepped.{Stepped}
use Rattle.iter.specs.Walker.{walker, stepped, ended, refused, advanced, WalkerSteps}

module _ (s : Store) (w : Walker) where
  pub refused-at-end : (Shaped s → ⊥) → w.done ≡ true → WalkerSteps s w (refused w WrongShape)
  refused-at-end h d = record { wrong = λ x. refl; done = λ x e. absurd (h x); goes = λ e. clash d e }

  pub at-end : Shaped s → w.done ≡ true → (r : Stepped) → r ≡ ended w.key → WalkerSteps s w r
  at-end h d r e =
      record {
        wrong = λ x. absurd (x h);
        done = λ x y. e ∙ ap (λ (b : Bool). stepped (walker w.key b) (Ok None)) (sym d);
        goes = λ y. clash d y;
      }

  pub goes_on : w.done ≡ false → (n : Result (Next Value) Refusal) → NextOfValue s w.key n → (r : Stepped) → r ≡ advanced w n → WalkerSteps s w r
  goes_on d n p r e =
      record {
        wrong = λ h. e ∙ ap (advanced w) (p.2 ∙ ap next_value_of (next-refused s (encoded w.key) p.0 p.1 h));
        done = λ h y. clash y d;
        goes = λ y. (n, p, e);
      }
