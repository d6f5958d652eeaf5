-- What a call that writes leaves: sound where the table's outcome is well-formed; and growth, from the size that it gives the array to what
-- is promised. Assumes nothing.
use mathlib.Core.Path.{◌≡◌, refl, sym, ap, subst, ◌∙◌}
use mathlib.Core.Bool.{true, false}
use Prim.Native.Nat.{ℕ, suc, ◌≤◌, ◌<◌, max}
use native.Mathlib.Omega.{arith}
use lib.ListN.{length}
use borrow.Author.Tests.{le-leb, lt-leb}
use Rattle.value.specs.declared.Words.{Words}
use Rattle.value.specs.Same.{nil}
use Rattle.value.specs.Refusals.{no_room}
use Rattle.key.specs.Canonical.{integer}
use Rattle.lent.specs.Lent.{WordSized}
use Rattle.model.specs.Entries.{keep}
use Rattle.model.specs.Table.{Table, within, lookup}
use Rattle.model.specs.Growth.{tabulate, stays, rehashed, optimal_size, grown_allowance}
use Rattle.model.specs.Calls.{Outcome, write_array, append, place_in, grow}
use Rattle.model.specs.WellFormed.{WellFormed}
use Rattle.model.proofs.Size.{size-le}
use Rattle.model.proofs.Map.{rehashed-length}
use Rattle.store.specs.declared.Record.{Record}
use Rattle.store.specs.Store.{Slices, Store, store, Lengths, lengths_of, room_for}
use Rattle.store.specs.Shape.{Shaped}
use Rattle.store.specs.Written.{written, Sound, table_of}
use Rattle.store.proofs.Views.{length-array}
use Rattle.store.proofs.Sound.{sound-written, written-sound}
use Rattle.growth.specs.Counts.{GrownSize}
use Rattle.rehash.specs.Rehash.{staying_in}
use Rattle.writes.specs.Writes.{Left, left, written_out}
use Rattle.writes.specs.Roads.{ArrayGrown, EntryGrown, GrowDone}
use Rattle.std.specs.Prelude.{Ok, Err}
use Rattle.value.specs.declared.refusal.Refusal.TheVariants.{NoRoom}

-- ---- soundness
pub outcome-sound : (s : Store) → Sound s → (o : Outcome) → WellFormed (room_for s) o.table → (x : Left) → x ≡ written_out (lengths_of s.slices) o
    → WordSized x.store.slices.array → WordSized x.store.slices.entries → Sound x.store
outcome-sound s S o w x p a e =
    let q : x.store ≡ written (lengths_of s.slices) o.table = ap (λ (y : Left). y.store) p in
    subst Sound (sym q)
    (written-sound (lengths_of s.slices) o.table S.lengths w (subst (λ (y : Store). WordSized y.slices.array) q a)
    (subst (λ (y : Store). WordSized y.slices.entries) q e))

-- ---- growth: r is the size that it gives the array
rehashed-max : (t : Table) (S : ℕ) → rehashed t (max (length t.array) S) ≡ rehashed t S
unfolding rehashed
rehashed-max t S =
    let p : max (length t.array) (max (length t.array) S) ≡ max (length t.array) S = omega arith in
    ap {B = Table} (λ (A : ℕ). record { array = tabulate A (λ i. lookup t (integer (suc i))) 0; entries = keep (stays A) t.entries; allowance = t.allowance }) p

pub size_fits_lem : (s : Store) (k : Words) (r : ℕ) → GrownSize s k r → Shaped s → (s.sizes.size ≤ r) × (r ≤ (room_for s).array_room)
size_fits_lem s k r g h = (omega arith, omega (arith, size-le (room_for s) (table_of s) k))

module _ (s : Store) (k v : Words) (r : ℕ) (g : GrownSize s k r) where
  abbrev t : Table
  t = table_of s

  abbrev l : Lengths
  l = lengths_of s.slices

  abbrev grown : Table
  grown = rehashed t (optimal_size (room_for s) t k)

  size_is : max (length t.array) (optimal_size (room_for s) t k) ≡ r
  size_is = ap (λ (A : ℕ). max A (optimal_size (room_for s) t k)) (length-array s) ∙ sym g

  grown-is : rehashed t r ≡ grown
  grown-is = ap (rehashed t) (sym size_is) ∙ rehashed-max t (optimal_size (room_for s) t k)

  within-is : within (length grown.array) k ≡ within r k
  within-is = ap (λ (A : ℕ). within A k) (rehashed-length t (optimal_size (room_for s) t k) ∙ size_is)

  staying-is : length grown.entries ≡ length (staying_in s.slices.entries s.sizes.count r)
  unfolding table_of rehashed
  staying-is = ap (λ (A : ℕ). length (keep (stays A) t.entries)) size_is

  pub into-array : within r k ≡ true → (p : Words) → p ≡ nil → (after : Slices) (sizes : Record) → ArrayGrown s r k v (store after sizes)
      → GrowDone s k v after (Ok (p, sizes))
  unfolding grow place_in
  into-array h p q after sizes a = (
    tt,
    record {
      refused = λ n. absurd (n refl);
      sound = λ S. rw (q, within-is ∙ h) (ap (left 0 nil) (a S ∙ ap (λ (u : Table). written l (write_array u k v)) grown-is));
    },
  )

  pub no_room_lem : within r k ≡ false → (room_for s).entry_room ≤ length (staying_in s.slices.entries s.sizes.count r)
      → GrowDone s k v s.slices (Err NoRoom)
  unfolding grow place_in
  no_room_lem h f = (
    refl,
    record {
      refused = λ n. refl;
      sound = λ S. rw (within-is ∙ h, le-leb (room_for s).entry_room (length grown.entries) (omega (arith, staying-is))) (ap (left no_room nil) (sound-written s S));
    },
  )

  pub into-entries : within r k ≡ false → length (staying_in s.slices.entries s.sizes.count r) < (room_for s).entry_room
      → (p : Words) → p ≡ nil → (after : Slices) (sizes : Record) → EntryGrown s r k v (store after sizes) → GrowDone s k v after (Ok (p, sizes))
  unfolding grow place_in
  into-entries h f p q after sizes a = (
    tt,
    record {
      refused = λ n. absurd (n refl);
      sound = λ S. rw (q, within-is ∙ h, lt-leb (room_for s).entry_room (length grown.entries) (omega (arith, staying-is)))
          (ap (left 0 nil) (a S ∙ ap (λ (u : Table). written l (append u k v (grown_allowance (room_for s).entry_room (length u.entries) u.allowance))) grown-is));
    },
  )
