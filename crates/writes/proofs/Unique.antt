-- One outcome of each call that writes: on a sound store, and where the shape is wrong, its promise leaves no answer, no record and no word open.
-- Assumes nothing.
use mathlib.Core.Path.{◌≡◌, refl, sym, ap, ◌∙◌}
use mathlib.Core.Logic.{◌⊎◌, inl, inr}
use Prim.Native.Nat.{ℕ}
use native.Mathlib.Omega.{arith}
use Rattle.value.specs.declared.Words.{Words}
use Rattle.value.specs.Refusals.{wrong_shape}
use Rattle.value.proofs.Refusals.{numbered, number-one}
use Rattle.model.specs.Calls.{Outcome}
use Rattle.store.specs.declared.Record.{Record}
use Rattle.store.specs.Store.{Slices, Store}
use Rattle.store.specs.Shape.{Shaped}
use Rattle.store.specs.Written.{Sound}
use Rattle.writes.specs.Writes.{Left, set_left, reserve_left, Promised, SetDone, ReserveDone}
use Rattle.std.specs.Prelude.{Result, Ok, Err}
use Rattle.value.specs.declared.refusal.Refusal.{Refusal}

-- what two calls left, where one promise holds of both
record Alike (x y : Left) : Type 0 where
  refusal : x.refusal ≡ y.refusal
  slices : x.store.slices ≡ y.store.slices
  -- only a call that was done answers more than its number
  more : x.refusal ≡ 0 → x ≡ y

alike : {s : Store} {o : Outcome} {Numbers : ℕ → Type 0} {x y : Left} → Sound s ⊎ (Shaped s → ⊥) → Promised s o Numbers x → Promised s o Numbers y → Alike x y
alike (inl S) p q =
    let e = p.does.sound S ∙ sym (q.does.sound S) in
    record { refusal = ap (λ (z : Left). z.refusal) e; slices = ap (λ (z : Left). z.store.slices) e; more = λ r. e }
alike {x = x} {y = y} (inr w) p q =
    let a : x.refusal ≡ wrong_shape = p.wrong w in
    let b : y.refusal ≡ wrong_shape = q.wrong w in
    record {
      refusal = a ∙ sym b;
      slices = ap (λ (z : Store). z.slices) (p.does.refused (λ r. absurd (omega arith)) ∙ sym (q.does.refused (λ r. absurd (omega arith))));
      more = λ r. absurd (omega arith);
    }

set-one : (before : Record) (a b : Slices) (r t : Result (Words × Record) Refusal) → Alike (set_left before a r) (set_left before b t) → (a ≡ b) × (r ≡ t)
set-one before a b (Ok (p, r)) (Ok (q, t)) e = let l = e.more refl in (e.slices, λ j. Ok ((l j).previous, (l j).store.sizes))
set-one before a b (Ok (p, r)) (Err k) e = absurd (omega (arith, numbered k, e.refusal))
set-one before a b (Err k) (Ok (q, t)) e = absurd (omega (arith, numbered k, e.refusal))
set-one before a b (Err k) (Err h) e = (e.slices, ap Err (number-one k h e.refusal))

reserve-one : (before : Record) (a b : Slices) (r t : Result Record Refusal) → Alike (reserve_left before a r) (reserve_left before b t) → (a ≡ b) × (r ≡ t)
reserve-one before a b (Ok r) (Ok t) e = let l = e.more refl in (e.slices, λ j. Ok (l j).store.sizes)
reserve-one before a b (Ok r) (Err k) e = absurd (omega (arith, numbered k, e.refusal))
reserve-one before a b (Err k) (Ok t) e = absurd (omega (arith, numbered k, e.refusal))
reserve-one before a b (Err k) (Err h) e = (e.slices, ap Err (number-one k h e.refusal))

pub set-unique : (s : Store) (key v : Words) (a b : Slices) (r t : Result (Words × Record) Refusal) → Sound s ⊎ (Shaped s → ⊥) → SetDone s key v a r → SetDone s key v b t → (a ≡ b) × (r ≡ t)
set-unique s key v a b r t w p q = set-one s.sizes a b r t (alike w p q)

pub reserve-unique : (s : Store) (n : ℕ) (a b : Slices) (r t : Result Record Refusal) → Sound s ⊎ (Shaped s → ⊥) → ReserveDone s n a r → ReserveDone s n b t → (a ≡ b) × (r ≡ t)
reserve-unique s n a b r t w p q = reserve-one s.sizes a b r t (alike w p q)
