-- What the promises of the calls say on a sound store, by the table that it is read as: the table's value meets what is promised of a get; a
-- call that writes leaves a sound store of the same lengths, whose table is the outcome's. Assumes nothing.
use mathlib.Core.Path.{◌≡◌, refl, sym, ap, subst, ◌∙◌}
use Prim.Native.Nat.{ℕ}
use Rattle.value.specs.declared.Words.{Words}
use Rattle.value.specs.Encoding.{Decodes}
use Rattle.model.specs.Table.{Table, get_of}
use Rattle.model.specs.Calls.{Outcome}
use Rattle.model.specs.WellFormed.{WellFormed}
use Rattle.model.proofs.Kept.{set_of-kept, reserve-kept}
use Rattle.store.specs.Store.{Store, lengths_of, room_for}
use Rattle.store.specs.Written.{Sound, table_of}
use Rattle.store.proofs.Views.{table-written}
use Rattle.store.proofs.Sound.{lengths-written, sound-formed, sound-shaped}
use Rattle.reads.specs.Reads.{GetAnswers}
use Rattle.reads.proofs.Unique.{got_words, get-answered}
use Rattle.table.specs.Stays.{Stays}
use Rattle.writes.specs.Writes.{Left, RoomOnly, SetNumbers, Promised, set_outcome, reserve_outcome}
use Rattle.std.specs.Prelude.{Result, Ok}
use Rattle.value.specs.declared.refusal.Refusal.{Refusal}

pub is_get : {s : Store} → Sound s → (key : Words) → Decodes key → GetAnswers s key (Ok (get_of (table_of s) key))
is_get {s = s} S key d = (sound-shaped s S, d, λ S. refl)

-- ---- the calls that write
module _ {s : Store} {o : Outcome} {Numbers : ℕ → Type 0} {l : Left} (S : Sound s) (p : Promised s o Numbers l) where
  pub refusal_is : l.refusal ≡ o.refusal
  refusal_is = ap (λ (x : Left). x.refusal) (p.does.sound S)

  pub previous-is : l.previous ≡ o.previous
  previous-is = ap (λ (x : Left). x.previous) (p.does.sound S)

  pub table_is : table_of l.store ≡ o.table
  table_is = ap (λ (x : Left). table_of x.store) (p.does.sound S) ∙ table-written (lengths_of s.slices) o.table

  pub get_left : Sound l.store → (key : Words) (a : Result Words Refusal) → GetAnswers l.store key a → a ≡ got_words key (get_of o.table key)
  get_left L key a q = get-answered _ key a q L ∙ ap (λ (t : Table). got_words key (get_of t key)) table_is

  -- after any refusal, whatever words were passed
  pub refused-stays : (l.refusal ≡ 0 → ⊥) → Stays s l.store
  refused-stays r =
      let e = p.does.refused r in record { sound = subst Sound (sym e) S; lengths = ap (λ (x : Store). lengths_of x.slices) e }

  formed-stays : WellFormed (room_for s) o.table → Stays s l.store
  formed-stays w =
      record {
        sound = p.kept S;
        lengths = ap (λ (x : Left). lengths_of x.store.slices) (p.does.sound S) ∙ lengths-written (lengths_of s.slices) o.table S.lengths w;
      }

-- whatever words are passed
pub set-stays : {s : Store} (key v : Words) {l : Left} → Sound s → Promised s (set_outcome s key v) (SetNumbers key v) l → Stays s l.store
set-stays {s = s} key v S p = formed-stays S p (set_of-kept (room_for s) (table_of s) key v (sound-formed s S))

pub reserve-stays : {s : Store} (n : ℕ) {l : Left} → Sound s → Promised s (reserve_outcome s n) RoomOnly l → Stays s l.store
reserve-stays {s = s} n S p = formed-stays S p (reserve-kept (room_for s) (table_of s) n (sound-formed s S))
