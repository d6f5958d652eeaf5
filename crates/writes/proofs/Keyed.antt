-- The roads of a set of a canonical key on a sound store: into the array, over an entry, nothing, one entry more, or growth. Each leaves the
-- table's outcome, written out, as is promised. Assumes nothing.
use mathlib.Core.Path.{◌≡◌, refl, sym, ap, subst, ◌∙◌}
use mathlib.Core.Bool.{true, false}
use mathlib.Core.List.{List}
use Prim.Native.Nat.{ℕ, ◌+◌, ◌*◌, ◌≤◌, ◌<◌}
use native.Mathlib.Omega.{arith}
use lib.ListN.{length, get_or, set}
use borrow.Author.Tests.{lt-ltb, le-ltb}
use Rattle.value.specs.declared.Words.{Words}
use Rattle.value.specs.Same.{nil, is_nil}
use Rattle.lent.specs.Lent.{value_at, put_value, put_entry}
use Rattle.index.specs.declared.Found.{Found}
use Rattle.index.specs.declared.Found.TheVariants.{At, Absent, Full}
use Rattle.index.specs.Index.{Right}
use Rattle.index.specs.Search.{Finds}
use Rattle.model.specs.Table.{Table, within, place_of}
use Rattle.model.specs.Calls.{grow, set_key}
use Rattle.model.proofs.Entries.{tabulate-at}
use Rattle.model.proofs.Array.{place-within}
use Rattle.store.specs.declared.Record.{Record}
use Rattle.store.specs.Store.{Slices, slices, Store, store_of, Lengths, lengths_of, room_for}
use Rattle.store.specs.Written.{Sound, table_of}
use Rattle.store.proofs.Views.{length-array, length-entries}
use Rattle.store.proofs.Sound.{Fits, fits, sound-formed, sound-written, right-index, sound-shaped}
use Rattle.store.proofs.Puts.{array-put, entry-put, append-here}
use Rattle.store.proofs.Keys.{inside-by, key-by, has-by, find-by}
use Rattle.writes.specs.Writes.{Left, left, written_out}
use Rattle.writes.specs.Roads.{GrowDone, with_count, AbsentAt, AbsentDoes, KeyDone}
use Rattle.std.specs.Prelude.{Result, Ok, Err}
use Rattle.value.specs.declared.refusal.Refusal.{Refusal}
use Rattle.value.specs.declared.refusal.Refusal.TheVariants.{NoRoom}

module _ (s : Store) (S : Sound s) (k v : Words) where
  abbrev t : Table
  t = table_of s

  abbrev l : Lengths
  l = lengths_of s.slices

  abbrev ew : List ℕ
  ew = s.slices.entries

  abbrev iw : List ℕ
  iw = s.slices.index

  abbrev E : ℕ
  E = s.sizes.count

  -- what is to be left
  abbrev Leaves : Left → Type 0
  Leaves x = x ≡ written_out l (set_key (room_for s) t k v)

  room : Fits l s.sizes
  room = fits l s.sizes (sound-shaped s S)

  within-is : within (length t.array) k ≡ within s.sizes.size k
  within-is = ap (λ (A : ℕ). within A k) (length-array s)

  allowance-is : t.allowance ≡ s.sizes.allowance
  unfolding table_of
  allowance-is = refl

  value-is : (i : ℕ) → i < s.sizes.size → get_or t.array i nil ≡ value_at s.slices.array i
  unfolding table_of
  value-is i h = tabulate-at s.sizes.size (value_at s.slices.array) nil i h

  over-array : within s.sizes.size k ≡ true
      → Leaves (left 0 (value_at s.slices.array (place_of k)) (store_of (put_value s.slices.array (place_of k) v) s.slices.entries s.slices.index s.sizes))
  unfolding set_key
  over-array h =
      let p : place_of k < s.sizes.size = place-within s.sizes.size k h in
      rw (within-is ∙ h)
      (λ j. left 0 (sym (value-is (place_of k) p) j) (array-put l t s (sound-written s S) k v (omega (arith, length-array s)) (omega (arith, length-array s, room.array)) j))

  over-entry : within s.sizes.size k ≡ false → (i : ℕ) → Finds s.slices.entries s.sizes.count s.slices.index k (At i)
      → Leaves (left 0 (value_at s.slices.entries (2 * i + 1)) (store_of s.slices.array (put_value s.slices.entries (2 * i + 1) v) s.slices.index s.sizes))
  unfolding set_key table_of
  over-entry h i a =
      let value = find-by ew E iw k (right-index s S).distinct (At i) a in
      rw (within-is ∙ h, has-by ew E iw k (At i) a)
      (λ j. left 0 (sym value j)
      (entry-put l t s (sound-written s S) i k v (sound-formed s S).apart (inside-by ew E iw k i a) (key-by ew E iw k i a)
      (omega (arith, length-entries s, room.entries)) j))

  absent-at : within s.sizes.size k ≡ false → (p : ℕ) → Finds s.slices.entries s.sizes.count s.slices.index k (Absent p) → AbsentAt s p k
  unfolding table_of
  absent-at h p a = record { outside = h; absent = has-by ew E iw k (Absent p) a; here = a.2 }

  module _ (place : ℕ) (a : AbsentAt s place k) where
    nothing : is_nil v ≡ true → Leaves (left 0 nil s)
    unfolding set_key
    nothing n = rw (within-is ∙ a.outside, a.absent, n) (ap (left 0 nil) (sound-written s S))

    one_more : is_nil v ≡ false → s.sizes.count < s.sizes.allowance
        → Leaves (left 0 nil (store_of s.slices.array (put_entry s.slices.entries s.sizes.count k v) (set s.slices.index place (s.sizes.count + 1)) (with_count s.sizes (s.sizes.count + 1))))
    unfolding set_key table_of
    one_more n h =
        let many : length t.entries ≡ E = length-entries s in
        let shape = sound-shaped s S in
        let enough : 4 * s.sizes.count + 4 ≤ length s.slices.entries = omega (arith, shape.lengths.entries_whole, shape.allowance_fits) in
        rw (within-is ∙ a.outside, a.absent, n, lt-ltb (length t.entries) t.allowance (omega (arith, many, allowance-is)))
        (ap (left 0 nil)
        (ap (λ (n : ℕ). store_of s.slices.array (put_entry s.slices.entries n k v) (set s.slices.index place (n + 1)) (with_count s.sizes (n + 1))) (sym many)
        ∙ append-here l t s (sound-written s S) k v s.sizes.allowance (omega (arith, many, enough)) refl a.here))

    grows : is_nil v ≡ false → s.sizes.allowance ≤ s.sizes.count → {x : Left} → x ≡ written_out l (grow (room_for s) t k v) → Leaves x
    unfolding set_key
    grows n h p = rw (within-is ∙ a.outside, a.absent, n, le-ltb (length t.entries) t.allowance (omega (arith, length-entries s, allowance-is))) p

-- ---- what is promised, where the key is in the array, where a search for it has answered, and where it is absent
module _ (s : Store) (k v : Words) where
  pub array-done : within s.sizes.size k ≡ true → (i : ℕ) → i ≡ place_of k → (p : Words) → p ≡ value_at s.slices.array i
      → (aw : List ℕ) → aw ≡ put_value s.slices.array i v → KeyDone s k v (slices aw s.slices.entries s.slices.index) (Ok (p, s.sizes))
  array-done h i e p q aw w = (tt, record { refused = λ n. absurd (n refl); sound = λ S. rw (q, w, e) (over-array s S k v h) })

  abbrev Answered : Found → Type 0
  Answered = Finds s.slices.entries s.sizes.count s.slices.index k

  module _ (r : Found) (f : Right s.slices.entries s.sizes.count s.slices.index → Answered r) where
    answered : Sound s → (found : Found) → r ≡ found → Answered found
    answered S found e = subst Answered e (f (right-index s S))

    pub entry_done : within s.sizes.size k ≡ false → (i : ℕ) → r ≡ At i → (p : Words) → p ≡ value_at s.slices.entries (2 * i + 1)
        → (ew : List ℕ) → ew ≡ put_value s.slices.entries (2 * i + 1) v → KeyDone s k v (slices s.slices.array ew s.slices.index) (Ok (p, s.sizes))
    entry_done h i e p q ew w = (tt, record { refused = λ n. absurd (n refl); sound = λ S. rw (q, w) (over-entry s S k v h i (answered S (At i) e)) })

    pub absent-done : within s.sizes.size k ≡ false → (p : ℕ) → r ≡ Absent p → (after : Slices) (x : Result (Words × Record) Refusal) → AbsentDoes s p k v after x → KeyDone s k v after x
    absent-done h p e after x d = (d.number, record { refused = d.refused; sound = λ S. d.sound S (absent-at s S k v h p (answered S (Absent p) e)) })

    pub full-done : r ≡ Full → KeyDone s k v s.slices (Err NoRoom)
    full-done e = (refl, record { refused = λ n. refl; sound = λ S. absurd (answered S Full e) })

  module _ (place : ℕ) where
    pub nothing-done : is_nil v ≡ true → (p : Words) → p ≡ nil → AbsentDoes s place k v s.slices (Ok (p, s.sizes))
    nothing-done h p q = record { number = tt; refused = λ n. absurd (n refl); sound = λ S a. rw q (nothing s S k v place a h) }

    pub append-done : is_nil v ≡ false → s.sizes.count < s.sizes.allowance → (p : Words) → p ≡ nil
        → (ew iw : List ℕ) (r : Record) → ew ≡ put_entry s.slices.entries s.sizes.count k v → iw ≡ set s.slices.index place (s.sizes.count + 1)
        → r ≡ with_count s.sizes (s.sizes.count + 1) → AbsentDoes s place k v (slices s.slices.array ew iw) (Ok (p, r))
    append-done h g p q ew iw r e i c =
        record { number = tt; refused = λ n. absurd (n refl); sound = λ S a. rw (q, e, i, c) (one_more s S k v place a h g) }

    pub grow-done : is_nil v ≡ false → s.sizes.allowance ≤ s.sizes.count → (after : Slices) (x : Result (Words × Record) Refusal) → GrowDone s k v after x → AbsentDoes s place k v after x
    grow-done h g after x d = record { number = d.0; refused = d.1.refused; sound = λ S a. grows s S k v place a h g (d.1.sound S) }
