-- The rule that settles it, over the real calls: what is proved of a table's entries holds of the words of a sound store. Assumes nothing.
use mathlib.Core.Path.{◌≡◌, sym, ap, subst, ◌∙◌}
use mathlib.Core.Bool.{true}
use mathlib.Core.List.{List}
use Prim.Native.Nat.{ℕ, ◌*◌, ◌<◌}
use native.Mathlib.Omega.{arith}
use lib.ListN.{length, get_or}
use borrow.Author.Tests.{not-true}
use Rattle.value.specs.declared.Words.{Words}
use Rattle.value.specs.Same.{nil}
use Rattle.lent.specs.Lent.{value_at}
use Rattle.model.specs.Entries.{Entry, entry, live, Each}
use Rattle.model.specs.Table.{Table}
use Rattle.model.specs.Calls.{Outcome}
use Rattle.model.specs.Settles.{key_at, KeepsPlaces, Settles}
use Rattle.model.proofs.Entries.{length-tabulate, tabulate-at, tabulate-each, map-tabulate}
use Rattle.model.proofs.Settles.{set-settles, reserve-settles}
use Rattle.store.specs.declared.Record.{Record}
use Rattle.store.specs.Store.{Slices, Store, room_for}
use Rattle.store.specs.Written.{Sound, entry_at, table_of}
use Rattle.store.proofs.Views.{length-entries}
use Rattle.store.proofs.Sound.{sound-formed}
use Rattle.writes.specs.Writes.{Left, set_left, reserve_left, Promised, SetDone, ReserveDone}
use Rattle.demands.specs.Places.{StaysPut, LeavesPlaces, SetLeavesPlaces, ReserveLeavesPlaces}
use Rattle.table.proofs.Outcomes.{refusal_is, table_is}
use Rattle.std.specs.Prelude.{Result}
use Rattle.value.specs.declared.refusal.Refusal.{Refusal}

-- ---- a store's table, by its words
length-array : (s : Store) → length (table_of s).array ≡ s.sizes.size
unfolding table_of
length-array s = length-tabulate s.sizes.size (value_at s.slices.array) 0

key-words : (s : Store) (i : ℕ) → i < s.sizes.count → key_at (table_of s) i ≡ value_at s.slices.entries (2 * i)
unfolding table_of
key-words s i h =
    ap (λ (l : List Words). get_or l i nil) (map-tabulate (λ (x : Entry). x.key) s.sizes.count (entry_at s.slices.entries) 0)
    ∙ tabulate-at s.sizes.count (λ j. value_at s.slices.entries (2 * j)) nil i h

live-words : (s : Store) → Each (λ x. live x ≡ true) (table_of s).entries → (i : ℕ) → i < s.sizes.count → live (entry_at s.slices.entries i) ≡ true
unfolding table_of
live-words s a = tabulate-each (λ x. live x ≡ true) (entry nil nil) s.sizes.count (entry_at s.slices.entries) a

stays_put : (s u : Store) → KeepsPlaces (table_of s) (table_of u) → StaysPut s u
stays_put s u p =
    record {
      size = sym (length-array u) ∙ p.array ∙ length-array s;
      count = omega (arith, p.entries, length-entries s, length-entries u);
      keys = λ i h.
          sym (key-words u i (omega (arith, p.entries, length-entries s, length-entries u))) ∙ p.keys i (omega (arith, length-entries s)) ∙ key-words s i h;
    }

-- ---- the calls
leaves-places : {s : Store} {o : Outcome} {Numbers : ℕ → Type 0} {l : Left} {Cause : Type 0} → Sound s → Promised s o Numbers l → Settles (table_of s) Cause o → LeavesPlaces s Cause l
leaves-places {s = s} {o = o} {l = l} S p w =
    let put : KeepsPlaces (table_of s) o.table → StaysPut s l.store = λ k. stays_put s l.store (subst (KeepsPlaces (table_of s)) (sym (table_is S p)) k) in
    record {
      stands = λ n. put (w.stands n);
      refused = λ r. put (w.refused (λ z. r (refusal_is S p ∙ z)));
      drops = λ c z i h.
          not-true _ (live-words l.store (subst (λ (t : Table). Each (λ x. live x ≡ true) t.entries) (sym (table_is S p)) (w.drops c (sym (refusal_is S p) ∙ z))) i h);
    }

pub set-places : (s : Store) (key v : Words) (after : Slices) (r : Result (Words × Record) Refusal) → Sound s → SetDone s key v after r → SetLeavesPlaces s key v (set_left s.sizes after r)
set-places s key v after r S p = leaves-places S p (set-settles (room_for s) (table_of s) key v (sound-formed s S))

pub reserve-places : (s : Store) (n : ℕ) (after : Slices) (r : Result Record Refusal) → Sound s → ReserveDone s n after r → ReserveLeavesPlaces s n (reserve_left s.sizes after r)
reserve-places s n after r S p = leaves-places S p (reserve-settles (room_for s) (table_of s) n)
