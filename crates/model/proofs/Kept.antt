-- A well-formed table stays well-formed: a fresh one is, and every set and reserve keeps it (01, 'The store'). What it answers decodes.
-- Assumes nothing.
use mathlib.Core.Path.{◌≡◌, refl}
use mathlib.Core.Bool.{true, false, not}
use mathlib.Core.List.{List, [], ◌∷◌}
use mathlib.Core.Logic.{inl, inr}
use Prim.Native.Nat.{ℕ, zero, suc, ◌+◌, ◌-◌, ◌*◌, ◌≤◌, ◌<◌, max}
use native.Mathlib.Omega.{arith}
use lib.Dec.{eqb, leb, ltb}
use lib.ListN.{length, get_or, length-set, length-append}
use borrow.Author.Tests.{leb-true, leb-false, ltb-true, ltb-false, not-true}
use Rattle.value.specs.declared.Words.{Words}
use Rattle.value.specs.Encoding.{decodes, Decodes}
use Rattle.value.specs.Same.{same, nil, is_nil}
use Rattle.value.proofs.Cases.{caseb, and_right, never}
use Rattle.value.specs.Refusals.{key_is_nil, refusal_number}
use Rattle.key.specs.Canonical.{integer, canonical_key}
use Rattle.key.proofs.Own.{by_key, canonical-own, integer-decodes, canonical-decodes}
use Rattle.model.specs.Entries.{Entry, entry, keys_of, has, find, keep, live, Each, found, not_found}
use Rattle.model.specs.Table.{Room, Table, fresh, within, place_of, array_pairs, pairs, lookup, get_of, next_of}
use Rattle.model.specs.Growth.{optimal_size, stays, rehashed, grown_allowance}
use Rattle.model.specs.Calls.{write_array, write_entry, append, place_in, grow, set_key, set_of, reserve_of}
use Rattle.model.specs.WellFormed.{Fair, ZeroOrPower, WellFormed, DecodesBoth, Canonical, Outside}
use Rattle.model.proofs.Entries.{put-keys, length-put, keys-append, length-keep, distinct_snoc, distinct-keep, each_append, each_keep, each-put, each_set, each-tabulate, each_first, each_from}
use Rattle.model.proofs.Map.{by-set, rehashed-length, absent-still, set-sets}
use Rattle.model.proofs.Size.{size-le, size-power}
use Rattle.std.specs.Prelude.{Ok}

pub nil-decodes : Decodes nil
unfolding decodes
nil-decodes = refl

pub fresh_kept : (room : Room) → Fair room → WellFormed room fresh
fresh_kept room h =
    record {
      fair = h;
      array_fits = omega arith;
      entries_fit = omega arith;
      allowance_fits = omega arith;
      power = inl refl;
      array_decodes = tt;
      entries_decode = tt;
      canonical = tt;
      outside = tt;
      apart = tt;
    }

module _ (room : Room) (t : Table) (k v : Words) (w : WellFormed room t) (dv : Decodes v) where
  write_array-kept : WellFormed room (write_array t k v)
  write_array-kept =
      let len : length (write_array t k v).array ≡ length t.array = length-set t.array (place_of k) v in
      record {
        fair = w.fair;
        array_fits = rw len w.array_fits;
        entries_fit = w.entries_fit;
        allowance_fits = w.allowance_fits;
        power = rw len w.power;
        array_decodes = each_set Decodes t.array (place_of k) v dv w.array_decodes;
        entries_decode = w.entries_decode;
        canonical = w.canonical;
        outside = rw len w.outside;
        apart = w.apart;
      }

  write_entry-kept : WellFormed room (write_entry t k v)
  write_entry-kept =
      record {
        fair = w.fair;
        array_fits = w.array_fits;
        entries_fit = rw (length-put t.entries k v) w.entries_fit;
        allowance_fits = w.allowance_fits;
        power = w.power;
        array_decodes = w.array_decodes;
        entries_decode = each-put DecodesBoth t.entries k v (λ s d. (d.0, dv)) w.entries_decode;
        canonical = each-put Canonical t.entries k v (λ s c. c) w.canonical;
        outside = each-put (Outside (length t.array)) t.entries k v (λ s o. o) w.outside;
        apart = rw (put-keys t.entries k v) w.apart;
      }

  append-kept : (M : ℕ) → Decodes k → canonical_key k ≡ Ok k → within (length t.array) k ≡ false → has t.entries k ≡ false → length t.entries < M → M ≤ room.entry_room → WellFormed room (append t k v M)
  append-kept M dk c b n h g =
      record {
        fair = w.fair;
        array_fits = w.array_fits;
        entries_fit = omega (arith, length-append t.entries (entry k v ∷ []));
        allowance_fits = g;
        power = w.power;
        array_decodes = w.array_decodes;
        entries_decode = each_append DecodesBoth t.entries (entry k v ∷ []) w.entries_decode ((dk, dv), tt);
        canonical = each_append Canonical t.entries (entry k v ∷ []) w.canonical (c, tt);
        outside = each_append (Outside (length t.array)) t.entries (entry k v ∷ []) w.outside (b, tt);
        apart = rw (keys-append t.entries (entry k v ∷ [])) (distinct_snoc (keys_of t.entries) k w.apart n);
      }

-- ---- growth
max-power : (m n : ℕ) → ZeroOrPower m → ZeroOrPower n → ZeroOrPower (max m n)
max-power m n p q =
    caseb (leb m n)
    (λ e. let h : m ≤ n = leb-true m n e in let r : max m n ≡ n = omega arith in rw r q)
    (λ e. let h : n < m = leb-false m n e in let r : max m n ≡ m = omega arith in rw r p)

get_or-decodes : (l : List Words) (i : ℕ) → Each Decodes l → Decodes (get_or l i nil)
get_or-decodes [] i a = nil-decodes
get_or-decodes (x ∷ xs) zero a = a.0
get_or-decodes (x ∷ xs) (suc i) a = get_or-decodes xs i a.1

find-decodes : (l : List Entry) (k : Words) → Each DecodesBoth l → Decodes (find l k)
find-decodes [] k a = nil-decodes
find-decodes (s ∷ ss) k a = caseb (same s.key k) (λ e. rw e a.0.1) (λ e. rw e (find-decodes ss k a.1))

pub lookup-decodes : (room : Room) (t : Table) (k : Words) → WellFormed room t → Decodes (lookup t k)
unfolding lookup
lookup-decodes room t k w =
    caseb (within (length t.array) k)
    (λ e. rw e (get_or-decodes t.array (place_of k) w.array_decodes))
    (λ e. rw e (find-decodes t.entries k w.entries_decode))

rehashed-kept : (room : Room) (t : Table) (S : ℕ) → S ≤ room.array_room → ZeroOrPower S → WellFormed room t → WellFormed room (rehashed t S)
unfolding rehashed
rehashed-kept room t S h q w =
    record {
      fair = w.fair;
      array_fits = omega (arith, len, w.array_fits);
      entries_fit = omega (arith, length-keep (stays A) t.entries, w.entries_fit);
      allowance_fits = w.allowance_fits;
      power = rw len (max-power (length t.array) S w.power q);
      array_decodes = each-tabulate Decodes A (λ i. lookup t (integer (suc i))) 0 (λ i a b. lookup-decodes room t (integer (suc i)) w);
      entries_decode = each_keep DecodesBoth DecodesBoth (stays A) t.entries (λ s e d. d) w.entries_decode;
      canonical = each_keep Canonical Canonical (stays A) t.entries (λ s e c. c) w.canonical;
      outside = rw len (each_keep (Outside (length t.array)) (Outside A) (stays A) t.entries (λ s e o. left s e) w.outside);
      apart = distinct-keep (stays A) t.entries w.apart;
    }
  where
    A : ℕ
    A = max (length t.array) S

    len : length (rehashed t S).array ≡ A
    len = rehashed-length t S

    left : (x : Entry) → stays A x ≡ true → within A x.key ≡ false
    left x e = unfold stays in not-true (within A x.key) (and_right (live x) (not (within A x.key)) e)

-- an accepted growth leaves room for the pair that is appended
pub allowance-enough : (e L M : ℕ) → L ≤ M → M ≤ e → L < e → (L < grown_allowance e L M) × (grown_allowance e L M ≤ e)
allowance-enough e L M h g f =
    caseb (leb M (2 * L))
    (λ b. let x : M ≤ 2 * L = leb-true M (2 * L) b in rw b (omega arith, omega arith))
    (λ b. let x : 2 * L < M = leb-false M (2 * L) b in rw b (omega arith, omega arith))

place_in-kept : (room : Room) (t r : Table) (k v : Words) → WellFormed room t → WellFormed room r → Decodes k → Decodes v → canonical_key k ≡ Ok k → has r.entries k ≡ false → WellFormed room (place_in room.entry_room t r k v).table
unfolding place_in
place_in-kept room t r k v wt wr dk dv c n =
    let e : ℕ = room.entry_room in
    let L : ℕ = length r.entries in
    caseb (within (length r.array) k)
    (λ b. rw b (write_array-kept room r k v wr dv))
    (λ b. rw b (caseb (leb e L)
    (λ d. rw d wt)
    (λ d. let en : (L < grown_allowance e L r.allowance) × (grown_allowance e L r.allowance ≤ e) = allowance-enough e L r.allowance wr.entries_fit wr.allowance_fits (leb-false e L d) in
    rw d (append-kept room r k v wr dv (grown_allowance e L r.allowance) dk c b n en.0 en.1))))

-- ---- the calls
pub set_key-kept : (room : Room) (t : Table) (k v : Words) → WellFormed room t → Decodes k → Decodes v → canonical_key k ≡ Ok k → WellFormed room (set_key room t k v).table
unfolding set_key grow optimal_size
set_key-kept room t k v w dk dv c =
    caseb (within (length t.array) k)
    (λ b. rw b (write_array-kept room t k v w dv))
    (λ b. rw b (caseb (has t.entries k)
    (λ n. rw n (write_entry-kept room t k v w dv))
    (λ n. rw n (caseb (is_nil v)
    (λ d. rw d w)
    (λ d. rw d (caseb (ltb (length t.entries) t.allowance)
    (λ f. rw f (append-kept room t k v w dv t.allowance dk c b n (ltb-true (length t.entries) t.allowance f) w.allowance_fits))
    (λ f. let S : ℕ = optimal_size room t k in
    rw f (place_in-kept room t (rehashed t S) k v w
    (rehashed-kept room t S (size-le room t k) (size-power room t k) w) dk dv c (absent-still t S k n)))))))))

pub set_of-kept : (room : Room) (t : Table) (key v : Words) → WellFormed room t → WellFormed room (set_of room t key v).table
set_of-kept room t key v w =
    by-set room t key v
    (λ k dk dv e q. rw q (set_key-kept room t k v w (canonical-decodes key k dk e) dv (canonical-own key k e)))
    (λ n q. rw q w)

pub reserve-kept : (room : Room) (t : Table) (n : ℕ) → WellFormed room t → WellFormed room (reserve_of room t n).table
unfolding reserve_of
reserve-kept room t n w =
    let L : ℕ = length (keep live t.entries) in
    caseb (leb n (t.allowance - length t.entries))
    (λ b. rw b w)
    (λ b. rw b (caseb (ltb room.entry_room (L + n))
    (λ d. rw d w)
    (λ d. rw d (record {
      fair = w.fair;
      array_fits = w.array_fits;
      entries_fit = omega arith;
      allowance_fits = omega (arith, ltb-false room.entry_room (L + n) d, w.allowance_fits);
      power = w.power;
      array_decodes = w.array_decodes;
      entries_decode = each_keep DecodesBoth DecodesBoth live t.entries (λ s e d. d) w.entries_decode;
      canonical = each_keep Canonical Canonical live t.entries (λ s e c. c) w.canonical;
      outside = each_keep (Outside (length t.array)) (Outside (length t.array)) live t.entries (λ s e o. o) w.outside;
      apart = distinct-keep live t.entries w.apart;
    }))))

-- ---- what a call answers decodes
pub get-decodes : (room : Room) (t : Table) (key : Words) → WellFormed room t → Decodes (get_of t key)
unfolding get_of
get-decodes room t key w = by_key key (λ k e. rw e (lookup-decodes room t k w)) (λ n e. rw e nil-decodes)

pub previous-decodes : (room : Room) (t : Table) (key v : Words) → WellFormed room t → Decodes (set_of room t key v).previous
previous-decodes room t key v w =
    by-set room t key v
    (λ k dk dv e q. rw q (elim (set-sets room t k v w) [ inl s ↦ rw s.previously (lookup-decodes room t k w) | inr p ↦ rw p nil-decodes ]))
    (λ n q. rw q nil-decodes)

array-decodes : (vs : List Words) (n : ℕ) → Each Decodes vs → Each DecodesBoth (array_pairs n vs)
array-decodes [] n a = tt
array-decodes (v ∷ vs) n a = ((integer-decodes (suc n), a.0), array-decodes vs (suc n) a.1)

pairs-decode : (room : Room) (t : Table) → WellFormed room t → Each DecodesBoth (pairs t)
unfolding pairs
pairs-decode room t w = each_append DecodesBoth (array_pairs 0 t.array) t.entries (array-decodes t.array 0 w.array_decodes) w.entries_decode

-- what holds of every pair holds of the one that `next` finds
pub next-each : (P : Entry → Type 0) (t : Table) (key k v : Words) → Each P (pairs t) → next_of t key ≡ found k v → P (entry k v)
unfolding next_of
next-each P t key k v a h =
    by_key key
    (λ j e. each_from P k v (pairs t) j a (rw e at h))
    (λ r e. caseb (eqb (refusal_number r) key_is_nil)
    (λ b. each_first P k v (pairs t) a (rw (e, b) at h))
    (λ b. let q : not_found ≡ found k v = rw (e, b) at h in never (cc)))

pub next-decodes : (room : Room) (t : Table) (key k v : Words) → WellFormed room t → next_of t key ≡ found k v → Decodes k × Decodes v
next-decodes room t key k v w = next-each DecodesBoth t key k v (pairs-decode room t w)
