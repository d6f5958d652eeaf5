-- A trace's room: its lengths are right, so that a fresh store is made in them, and on it the table is fresh. Assumes nothing.
use mathlib.Core.Path.{◌≡◌, refl, sym, ap, subst, ◌∙◌}
use Prim.Native.Nat.{◌-◌}
use lib.Dec.{lit≤}
use lib.ListN.{length}
use Rattle.lent.specs.Lent.{lent_words}
use Rattle.lent.proofs.Lent.{zeros-sized}
use Rattle.model.specs.Table.{fresh}
use Rattle.model.proofs.Kept.{fresh_kept}
use Rattle.store.specs.declared.Record.{Record}
use Rattle.store.specs.Store.{Slices, store, Lengths, lengths_of, room_of, room_for}
use Rattle.store.specs.Shape.{RightLengths}
use Rattle.store.specs.Fresh.{FreshMade}
use Rattle.store.specs.Written.{written, Sound, table_of}
use Rattle.store.proofs.Views.{table-written}
use Rattle.store.proofs.Sound.{right-fair, lengths-written, written-sound}
use Rattle.session.specs.Room.{trace_room, trace_lengths, trace_store}
use Rattle.std.specs.Prelude.{Result, Ok, Err}
use Rattle.std.specs.Result.{IsOk}
use Rattle.value.specs.declared.refusal.Refusal.{Refusal}

pub trace-right : RightLengths trace_lengths
trace-right =
    record {
      array_whole = refl;
      entries_whole = refl;
      array_most = lit≤ tt;
      entries_most = lit≤ tt;
      index_power = (10, refl);
      index_least = lit≤ tt;
      index_most = lit≤ tt;
      index_enough = lit≤ tt;
    }

pub trace-sound : Sound trace_store
unfolding written lent_words
trace-sound =
    written-sound trace_lengths fresh trace-right (fresh_kept trace_room (right-fair trace_lengths trace-right))
    (zeros-sized (trace_lengths.array - 0)) (zeros-sized (trace_lengths.entries - 0))

pub trace-table : table_of trace_store ≡ fresh
trace-table = table-written trace_lengths fresh

pub trace-room : room_for trace_store ≡ trace_room
trace-room = ap room_of (lengths-written trace_lengths fresh trace-right (fresh_kept trace_room (right-fair trace_lengths trace-right)))

-- ---- a fresh store is made in slices of these lengths, and is the one that a trace begins with
same-lengths : (s : Slices) → length s.array ≡ trace_lengths.array → length s.entries ≡ trace_lengths.entries → length s.index ≡ trace_lengths.index
    → lengths_of s ≡ trace_lengths
same-lengths s a e n j = record { array = a j; entries = e j; index = n j }

module _ (before after : Slices) (a : length before.array ≡ trace_lengths.array) (e : length before.entries ≡ trace_lengths.entries)
    (n : length before.index ≡ trace_lengths.index) where
  pub fresh-made : (r : Result Record Refusal) → FreshMade before after r → IsOk r
  fresh-made (Ok r) f = refl
  fresh-made (Err x) f = absurd (f.0 (subst RightLengths (sym (same-lengths before a e n)) trace-right))

  pub fresh-begins : (r : Record) → FreshMade before after (Ok r) → store after r ≡ trace_store
  fresh-begins r f = f.1 ∙ ap (λ (l : Lengths). written l fresh) (same-lengths before a e n)

pub ruleset beginning = (fresh-made, fresh-begins)
