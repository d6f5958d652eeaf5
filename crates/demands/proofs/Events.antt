-- Which calls may come anywhere in a walk (`Walking.still`): every refused one leaves each word and the record as they were. One that is passed
-- another record with the same slices, as where the shape is wrong, leaves the words that a walk goes over. Assumes nothing.
use mathlib.Core.Path.{◌≡◌, refl, ap}
use Prim.Native.Nat.{ℕ}
use Rattle.model.specs.Calls.{Outcome}
use Rattle.store.specs.declared.Record.{Record}
use Rattle.store.specs.Store.{Slices, Store, store}
use Rattle.store.specs.Fresh.{FreshMade}
use Rattle.writes.specs.Writes.{Left, Promised}
use Rattle.std.specs.Prelude.{Result, Ok, Err}
use Rattle.value.specs.declared.refusal.Refusal.{Refusal}
use Rattle.value.specs.Refusals.{answer_number}

-- a set or a reserve, `Promised` being what SetDone and ReserveDone say
pub refused-still : {s : Store} {o : Outcome} {Numbers : ℕ → Type 0} {l : Left} → Promised s o Numbers l → (l.refusal ≡ 0 → ⊥) → l.store ≡ s
refused-still p r = p.does.refused r

-- the same on the walk's slices with any record
pub refused-beside : (s : Store) (x : Record) {o : Outcome} {Numbers : ℕ → Type 0} {l : Left} → Promised (store s.slices x) o Numbers l → (l.refusal ≡ 0 → ⊥)
    → store l.store.slices s.sizes ≡ s
refused-beside s x p r = ap (λ (u : Store). store u.slices s.sizes) (p.does.refused r)

pub fresh-still : (s : Store) (after : Slices) (m : Result Record Refusal) → FreshMade s.slices after m → (answer_number m ≡ 0 → ⊥) → store after s.sizes ≡ s
fresh-still s after (Ok x) f r = absurd (r refl)
fresh-still s after (Err e) f r = ap (λ (l : Slices). store l s.sizes) f.2
