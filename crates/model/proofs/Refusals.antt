-- Refusals: 15 exactly for words that are no value's, then 1 and 2 exactly for a key that is Nil or NaN, 3 exactly under 01's step 5, for
-- reserve exactly when L + n > e; and a refusal answers the table as it was ('Refusal numbers'). Assumes nothing.
use mathlib.Core.Path.{◌≡◌, refl, ap, ◌∙◌}
use mathlib.Core.Bool.{true}
use mathlib.Core.Logic.{◌⊎◌, inl, inr}
use Prim.Native.Nat.{ℕ, ◌+◌, ◌-◌, ◌≤◌}
use native.Mathlib.Omega.{arith}
use lib.Dec.{leb, ltb}
use lib.Ieee.{binary64, nan_bits}
use lib.ListN.{length}
use borrow.Author.Tests.{leb-true, leb-false, ltb-true, ltb-false, le-ltb, lt-ltb, le-leb, lt-leb}
use Rattle.value.specs.declared.Words.{Words}
use Rattle.value.specs.Same.{nil, is_nil}
use Rattle.value.proofs.Cases.{caseb}
use Rattle.value.specs.Refusals.{key_is_nil, key_is_nan, no_room, refusal_number}
use Rattle.key.specs.Canonical.{canonical_key}
use Rattle.key.proofs.Own.{by_key, no_key, nil-no-key, nan-no-key}
use Rattle.model.specs.Entries.{has, keep, live}
use Rattle.model.specs.Table.{Room, Table, within, lookup}
use Rattle.model.specs.Growth.{optimal_size, rehashed}
use Rattle.model.specs.Calls.{Outcome, done, refuse, place_in, grow, set_key, are_values, set_of, reserve_of}
use Rattle.model.specs.WellFormed.{WellFormed}
use Rattle.model.specs.Refused.{Full, Refused, not_values, nil_key, nan_key, full, NoSpace}
use Rattle.model.proofs.Map.{set-no-value, set_key_lem, set-no-key, by-set, Sets, set-sets}
use Rattle.std.specs.Prelude.{Ok}
use Rattle.value.specs.declared.refusal.Refusal.{Refusal}
use Rattle.value.specs.declared.refusal.Refusal.TheVariants.{KeyIsNil, KeyIsNan}

pub zero-three : {X : Type 0} → ◌≡◌ {A = ℕ} 0 3 → X
zero-three p = absurd (differ p)
  where
    differ : ◌≡◌ {A = ℕ} 0 3 → ⊥
    differ q = omega arith

pub refused_full : (room : Room) (t : Table) (k v : Words) → (set_key room t k v).refusal ≡ no_room → Full room t k v
unfolding set_key grow place_in
refused_full room t k v h =
    let r : Table = rehashed t (optimal_size room t k) in
    caseb (within (length t.array) k)
    (λ b. zero-three (rw b at h))
    (λ b. caseb (has t.entries k)
    (λ c. zero-three (rw (b, c) at h))
    (λ c. caseb (is_nil v)
    (λ d. zero-three (rw (b, c, d) at h))
    (λ d. caseb (ltb (length t.entries) t.allowance)
    (λ f. zero-three (rw (b, c, d, f) at h))
    (λ f. caseb (within (length r.array) k)
    (λ g. zero-three (rw (b, c, d, f, g) at h))
    (λ g. caseb (leb room.entry_room (length r.entries))
    (λ l. record {
      grows = record { not_array = b; absent = c; value = d; spent = ltb-false (length t.entries) t.allowance f };
      beyond = g;
      no_place = leb-true room.entry_room (length r.entries) l;
    })
    (λ l. zero-three (rw (b, c, d, f, g, l) at h)))))))

pub full-refused : (room : Room) (t : Table) (k v : Words) → Full room t k v → (set_key room t k v).refusal ≡ no_room
unfolding set_key grow place_in
full-refused room t k v x =
    let n = x.grows in
    rw (n.not_array, n.absent, n.value, le-ltb (length t.entries) t.allowance n.spent, x.beyond, le-leb room.entry_room (length (rehashed t (optimal_size room t k)).entries) x.no_place)

-- ---- for these reasons, and for no other
pub set-refused : (room : Room) (t : Table) (key v : Words) → WellFormed room t → ((set_of room t key v).refusal ≡ 0 → ⊥) → Refused room t key v (set_of room t key v).refusal
set-refused room t key v w r =
    caseb (are_values key v)
    (λ d. by_key key
    (λ k e. let q : set_of room t key v ≡ set_key room t k v = set_key_lem room t key v d k e in rw q (by-room d k e (rw q at r) (set-sets room t k v w)))
    (λ r e. rw (set-no-key room t key v d r e) (by_kind d r (no_key key r e))))
    (λ d. rw (set-no-value room t key v d) (not_values d))
  where
    by-room : are_values key v ≡ true → (k : Words) → canonical_key key ≡ Ok k → ((set_key room t k v).refusal ≡ 0 → ⊥) → Sets (lookup t) k v (set_key room t k v) ⊎ (set_key room t k v ≡ refuse no_room t)
        → Refused room t key v (set_key room t k v).refusal
    by-room d k e r (inl m) = absurd (r m.ok)
    by-room d k e r (inr p) = rw p (full d k e (refused_full room t k v (ap (λ (o : Outcome). o.refusal) p)))

    by_kind : are_values key v ≡ true → (r : Refusal) → ((key.kind ≡ 0) × (r ≡ KeyIsNil)) ⊎ ((key.kind ≡ 3) × (nan_bits binary64 key.payload ≡ true) × (r ≡ KeyIsNan)) → Refused room t key v (refusal_number r)
    by_kind d r (inl a) = rw a.1 (nil_key d a.0)
    by_kind d r (inr a) = rw a.2 (nan_key d a.0 a.1)

pub refused-set : (room : Room) (t : Table) (key v : Words) {n : ℕ} → Refused room t key v n → (set_of room t key v).refusal ≡ n
refused-set room t key v (not_values d) = ap (λ (o : Outcome). o.refusal) (set-no-value room t key v d)
refused-set room t key v (nil_key d h) = ap (λ (o : Outcome). o.refusal) (set-no-key room t key v d KeyIsNil (nil-no-key key h))
refused-set room t key v (nan_key d h n) = ap (λ (o : Outcome). o.refusal) (set-no-key room t key v d KeyIsNan (nan-no-key key h n))
refused-set room t key v (full d k e f) = ap (λ (o : Outcome). o.refusal) (set_key_lem room t key v d k e) ∙ full-refused room t k v f

-- what a refused set leaves is the table as it was
pub set-unchanged : (room : Room) (t : Table) (key v : Words) → WellFormed room t → ((set_of room t key v).refusal ≡ 0 → ⊥) → (set_of room t key v).table ≡ t
set-unchanged room t key v w r =
    by-set room t key v
    (λ k dk dv e q. ap (λ (o : Outcome). o.table) q ∙ by-room k (rw q at r) (set-sets room t k v w))
    (λ n q. ap (λ (o : Outcome). o.table) q)
  where
    by-room : (k : Words) → ((set_key room t k v).refusal ≡ 0 → ⊥) → Sets (lookup t) k v (set_key room t k v) ⊎ (set_key room t k v ≡ refuse no_room t) → (set_key room t k v).table ≡ t
    by-room k r (inl m) = absurd (r m.ok)
    by-room k r (inr p) = ap (λ (o : Outcome). o.table) p

-- ---- reserve: refused for this reason, or done
pub reserve-either : (room : Room) (t : Table) (n : ℕ) → ((reserve_of room t n ≡ refuse no_room t) × NoSpace room t n) ⊎ (((reserve_of room t n).refusal ≡ 0) × ((reserve_of room t n).previous ≡ nil))
unfolding reserve_of
reserve-either room t n =
    let free : ℕ = t.allowance - length t.entries in
    let needed : ℕ = length (keep live t.entries) + n in
    caseb (leb n free)
    (λ b. rw b (inr (refl, refl)))
    (λ b. rw b (caseb (ltb room.entry_room needed)
    (λ d. rw d (inl (refl, record { wanted = leb-false n free b; over = ltb-true room.entry_room needed d })))
    (λ d. rw d (inr (refl, refl)))))

pub reserve-refused : (room : Room) (t : Table) (n : ℕ) → ((reserve_of room t n).refusal ≡ 0 → ⊥) → (reserve_of room t n ≡ refuse no_room t) × NoSpace room t n
reserve-refused room t n r = elim (reserve-either room t n) [ inl x ↦ x | inr x ↦ absurd (r x.0) ]

pub refused-reserve : (room : Room) (t : Table) (n : ℕ) → NoSpace room t n → reserve_of room t n ≡ refuse no_room t
unfolding reserve_of
refused-reserve room t n x =
    rw (lt-leb n (t.allowance - length t.entries) x.wanted, lt-ltb room.entry_room (length (keep live t.entries) + n) x.over)

-- with room enough nothing happens, and nothing is dropped
pub reserve-enough : (room : Room) (t : Table) (n : ℕ) → n ≤ t.allowance - length t.entries → reserve_of room t n ≡ done nil t
unfolding reserve_of
reserve-enough room t n h = rw (le-leb n (t.allowance - length t.entries) h)
