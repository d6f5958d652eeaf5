-- The rule that settles it, of set and of reserve: what leaves entries in their places, and what drops the cleared ones. Assumes nothing.
use mathlib.Core.Path.{◌≡◌, refl, sym, ap, ◌∙◌}
use mathlib.Core.Bool.{Bool, true, not}
use mathlib.Core.List.{List, [], ◌∷◌}
use Prim.Native.Nat.{ℕ, ◌+◌, ◌-◌, ◌≤◌}
use native.Mathlib.Nat.{le_refl}
use native.Mathlib.Omega.{arith}
use lib.Dec.{leb, ltb}
use lib.ListN.{length, get_or, length-set, length-append, get_or-append}
use borrow.Author.Tests.{leb-true, leb-false, ltb-false, le-ltb, lt-leb}
use Rattle.value.specs.declared.Words.{Words}
use Rattle.value.specs.Same.{nil, is_nil}
use Rattle.value.proofs.Cases.{caseb, and_left}
use Rattle.model.specs.Entries.{Entry, entry, keys_of, has, keep, live, Each}
use Rattle.model.specs.Table.{Room, Table, within, place_of}
use Rattle.model.specs.Growth.{optimal_size, stays, rehashed}
use Rattle.model.specs.Calls.{Outcome, append, place_in, grow, set_key, set_of, reserve_of}
use Rattle.model.specs.WellFormed.{WellFormed}
use Rattle.model.specs.Settles.{KeepsPlaces, FindsNoPlace, SetGrows, ReserveGrows, Settles}
use Rattle.model.proofs.Entries.{put-keys, length-keys, length-put, keys-append, each_append}
use Rattle.model.proofs.Map.{set_key_lem, by-set}
use Rattle.model.proofs.Refusals.{zero-three, set-unchanged, reserve-refused, reserve-enough}

-- ---- places that are kept
pub same-places : {t u : Table} → u ≡ t → KeepsPlaces t u
same-places p = record { array = ap (λ (x : Table). length x.array) p; entries = rw p (le_refl _); keys = λ i h. ap (λ (x : Table). get_or (keys_of x.entries) i nil) p }

module _ (t : Table) (k v : Words) where
  append_places : KeepsPlaces t (append t k v t.allowance)
  append_places =
      record {
        array = refl;
        entries = omega (arith, length-append t.entries (entry k v ∷ []));
        keys = λ i h. ap (λ (l : List Words). get_or l i nil) (keys-append t.entries (entry k v ∷ []))
            ∙ get_or-append (keys_of t.entries) (k ∷ []) nil i (omega (arith, length-keys t.entries));
      }

  -- ---- a set that finds a place
  set-stands : (room : Room) → (FindsNoPlace t k v → ⊥) → KeepsPlaces t (set_key room t k v).table
  unfolding set_key
  set-stands room n =
      caseb (within (length t.array) k)
      (λ b. rw b (record { array = length-set t.array (place_of k) v; entries = le_refl _; keys = λ i h. refl }))
      (λ b. rw b (caseb (has t.entries k)
      (λ c. rw c (record {
        array = refl;
        entries = rw (length-put t.entries k v) (le_refl _);
        keys = λ i h. ap (λ (l : List Words). get_or l i nil) (put-keys t.entries k v);
      }))
      (λ c. rw c (caseb (is_nil v)
      (λ d. rw d (same-places refl))
      (λ d. rw d (caseb (ltb (length t.entries) t.allowance)
      (λ f. rw f append_places)
      (λ f. absurd (n (record { not_array = b; absent = c; value = d; spent = ltb-false (length t.entries) t.allowance f })))))))))

-- ---- what is left where entries were dropped
kept-live : (p : Entry → Bool) (l : List Entry) → ((s : Entry) → p s ≡ true → live s ≡ true) → Each (λ s. live s ≡ true) (keep p l)
kept-live p [] f = tt
kept-live p (s ∷ ss) f = caseb (p s) (λ e. rw e (f s e, kept-live p ss f)) (λ e. rw e (kept-live p ss f))

rehashed-live : (t : Table) (S : ℕ) → Each (λ s. live s ≡ true) (rehashed t S).entries
unfolding rehashed stays
rehashed-live t S = kept-live _ t.entries (λ s e. and_left (live s) (not (within _ s.key)) e)

set-drops : (room : Room) (t : Table) (k v : Words) → FindsNoPlace t k v → (set_key room t k v).refusal ≡ 0 → Each (λ s. live s ≡ true) (set_key room t k v).table.entries
unfolding set_key grow place_in
set-drops room t k v n z =
    let r : Table = rehashed t (optimal_size room t k) in
    rw (n.not_array, n.absent, n.value, le-ltb (length t.entries) t.allowance n.spent)
    (caseb (within (length r.array) k)
    (λ g. rw g (rehashed-live t (optimal_size room t k)))
    (λ g. caseb (leb room.entry_room (length r.entries))
    (λ l. zero-three (sym (rw (n.not_array, n.absent, n.value, le-ltb (length t.entries) t.allowance n.spent, g, l) at z)))
    (λ l. rw (g, l) (each_append _ r.entries (entry k v ∷ []) (rehashed-live t (optimal_size room t k)) (rw n.value, tt)))))

-- ---- the calls
pub set-settles : (room : Room) (t : Table) (key v : Words) → WellFormed room t → Settles t (SetGrows t key v) (set_of room t key v)
set-settles room t key v w =
    record {
      stands = λ n. by-set room t key v
          (λ k dk dv e q. rw q (set-stands t k v room (λ f. n (rw dk dv, (k, e, f)))))
          (λ m q. rw q (same-places refl));
      refused = λ r. same-places (set-unchanged room t key v w r);
      drops = λ c z. let q = set_key_lem room t key v c.0 c.1.0 c.1.1 in rw q (set-drops room t c.1.0 v c.1.2 (rw q at z));
    }

pub reserve-settles : (room : Room) (t : Table) (n : ℕ) → Settles t (ReserveGrows t n) (reserve_of room t n)
unfolding reserve_of
reserve-settles room t n =
    record {
      stands = λ f. same-places (ap (λ (o : Outcome). o.table) (reserve-enough room t n (enough f)));
      refused = λ r. same-places (ap (λ (o : Outcome). o.table) (reserve-refused room t n r).0);
      drops = λ c z. rw (lt-leb n (t.allowance - length t.entries) c)
          (caseb (ltb room.entry_room (length (keep live t.entries) + n))
          (λ d. zero-three (sym (rw (lt-leb n (t.allowance - length t.entries) c, d) at z)))
          (λ d. rw d (kept-live live t.entries (λ s e. e))));
    }
  where
    enough : (ReserveGrows t n → ⊥) → n ≤ t.allowance - length t.entries
    enough f = caseb (leb n (t.allowance - length t.entries)) (λ b. leb-true n (t.allowance - length t.entries) b) (λ b. absurd (f (leb-false n (t.allowance - length t.entries) b)))
