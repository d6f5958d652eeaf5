-- Demand 1 on stores: a call that writes is refused for 01's reasons and for no other, with their numbers, and a refusal changes no word.
-- Assumes nothing.
use Rattle.std.specs.Prelude.{◌≡◌, ℕ}
use Rattle.value.specs.declared.Words.{Words}
use Rattle.value.specs.Refusals.{no_room}
use Rattle.model.specs.Refused.{Refused, NoSpace}
use Rattle.store.specs.Store.{Store, room_for}
use Rattle.store.specs.Written.{table_of}
use Rattle.writes.specs.Writes.{Left}

-- of what a call left; `Reason n` is a reason to refuse it with the number n
pub record RefusedBy (before : Store) (Reason : ℕ → Type 0) (l : Left) : Type 0 where
  -- no refusal without a reason
  pub only : (l.refusal ≡ 0 → ⊥) → Reason l.refusal
  -- and no reason without its refusal
  pub always : {n : ℕ} → Reason n → l.refusal ≡ n
  pub unchanged : (l.refusal ≡ 0 → ⊥) → l.store ≡ before

abbrev pub SetRefuses : Store → Words → Words → Left → Type 0
SetRefuses s key v = RefusedBy s (Refused (room_for s) (table_of s) key v)

abbrev pub ReserveRefuses : Store → ℕ → Left → Type 0
ReserveRefuses s n = RefusedBy s (λ m. NoSpace (room_for s) (table_of s) n × (m ≡ no_room))
