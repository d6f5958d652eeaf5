-- What a public call promises: where the shape is wrong, where nothing is changed, and where words are; and a set by its key's canonical form,
-- refused where there is none. Assumes nothing.
use mathlib.Core.Path.{◌≡◌, refl, sym, ap, subst, ◌∙◌}
use mathlib.Core.Bool.{true, false}
use mathlib.Core.Logic.{inl, inr}
use Prim.Native.Nat.{ℕ}
use Rattle.value.specs.declared.Words.{Words}
use Rattle.value.specs.Same.{nil}
use Rattle.value.specs.Refusals.{wrong_shape, no_value, refusal_number}
use Rattle.key.specs.Canonical.{canonical_key}
use Rattle.lent.specs.Lent.{WordSized}
use Rattle.model.specs.Calls.{Outcome, refuse, are_values}
use Rattle.model.specs.WellFormed.{WellFormed}
use Rattle.model.proofs.Map.{set-no-value, set_key_lem, set-no-key}
use Rattle.model.proofs.Kept.{set_of-kept}
use Rattle.store.specs.declared.Record.{Record}
use Rattle.store.specs.Store.{Slices, Store, lengths_of, room_for}
use Rattle.store.specs.Shape.{Shaped}
use Rattle.store.specs.Written.{Sound, table_of}
use Rattle.store.proofs.Sound.{sound-formed, sound-written, sound-shaped}
use Rattle.writes.specs.Writes.{Left, left, set_left, written_out, Does, RoomOnly, SetNumbers, Promised, set_outcome, SetDone}
use Rattle.writes.specs.Roads.{RefusesRoom, KeyDone}
use Rattle.writes.proofs.Outcomes.{outcome-sound}
use Rattle.std.specs.Prelude.{Result, Ok, Err}
use Rattle.value.specs.declared.refusal.Refusal.{Refusal}
use Rattle.value.specs.declared.refusal.Refusal.TheVariants.{NoValue}

-- ---- any call
pub wrong-shape : (s : Store) {o : Outcome} {Numbers : ℕ → Type 0} → (Shaped s → ⊥) → Promised s o Numbers (left wrong_shape nil s)
wrong-shape s h =
    record {
      wrong = λ x. refl;
      right = λ x. absurd (h x);
      does = record { refused = λ r. refl; sound = λ S. absurd (h (sound-shaped s S)) };
      kept = λ S. S;
    }

-- nothing is changed, refused or not
pub unchanged : (s : Store) {o : Outcome} (Numbers : ℕ → Type 0) (n : ℕ) → Shaped s → Numbers n → (Sound s → left n nil s ≡ written_out (lengths_of s.slices) o)
    → Promised s o Numbers (left n nil s)
unchanged s Numbers n h m f = record { wrong = λ x. absurd (x h); right = λ x. m; does = record { refused = λ r. refl; sound = f }; kept = λ S. S }

-- 64-bit words are left: the store stays sound where the table's outcome is well-formed
pub changed : (s : Store) (o : Outcome) (Numbers : ℕ → Type 0) (x : Left) → Shaped s → Numbers x.refusal → (Sound s → WellFormed (room_for s) o.table) → Does s o x
    → WordSized x.store.slices.array → WordSized x.store.slices.entries → Promised s o Numbers x
changed s o Numbers x h m k d a e =
    record { wrong = λ w. absurd (w h); right = λ w. m; does = d; kept = λ S. outcome-sound s S o (k S) x (d.sound S) a e }

-- ---- set
room-only : (before : Record) (after : Slices) (r : Result (Words × Record) Refusal) → RefusesRoom r → RoomOnly (set_left before after r).refusal
room-only before after (Ok (p, r)) e = inl refl
room-only before after (Err r) e = inr (ap refusal_number e)

-- whatever a set answers, these are the slices that it leaves
slices-left : (before : Record) (after : Slices) (r : Result (Words × Record) Refusal) → after ≡ (set_left before after r).store.slices
slices-left before after (Ok (p, r)) = refl
slices-left before after (Err e) = refl

-- a set that the table refuses with this number, whatever room there is
set-refuses : (s : Store) (key v : Words) (n : ℕ) → Shaped s → SetNumbers key v n → (Sound s → set_outcome s key v ≡ refuse n (table_of s))
    → Promised s (set_outcome s key v) (SetNumbers key v) (left n nil s)
set-refuses s key v n h m q =
    unchanged s (SetNumbers key v) n h m (λ S. ap (left n nil) (sound-written s S) ∙ sym (ap (written_out (lengths_of s.slices)) (q S)))

pub set-unvalued : (s : Store) → Shaped s → (key v : Words) → are_values key v ≡ false → SetDone s key v s.slices (Err NoValue)
set-unvalued s h key v d = set-refuses s key v no_value h (rw d refl) (λ S. set-no-value (room_for s) (table_of s) key v d)

module _ (s : Store) (h : Shaped s) (key v : Words) (d : are_values key v ≡ true) where
  pub set-refused : (r : Refusal) → canonical_key key ≡ Err r → SetDone s key v s.slices (Err r)
  set-refused r e = set-refuses s key v (refusal_number r) h (rw (d, e) refl) (λ S. set-no-key (room_for s) (table_of s) key v d r e)

  pub set-keyed : (k : Words) → canonical_key key ≡ Ok k → (after : Slices) (r : Result (Words × Record) Refusal) → KeyDone s k v after r → WordSized after.array → WordSized after.entries
      → SetDone s key v after r
  set-keyed k e after r done a w =
      let same = slices-left s.sizes after r in
      changed s (set_outcome s key v) (SetNumbers key v) (set_left s.sizes after r) h (rw (d, e) (room-only s.sizes after r done.0)) (λ S. set_of-kept (room_for s) (table_of s) key v (sound-formed s S))
      (subst (λ (o : Outcome). Does s o (set_left s.sizes after r)) (sym (set_key_lem (room_for s) (table_of s) key v d k e)) done.1)
      (subst (λ (l : Slices). WordSized l.array) same a)
      (subst (λ (l : Slices). WordSized l.entries) same w)
