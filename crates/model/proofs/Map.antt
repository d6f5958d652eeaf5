-- A set as a map's set: get at that key is the value after it, get elsewhere is as before, and what it answers is what get gave before
-- (01, 'Calls'). It holds through growth, which changes no value. Assumes nothing.
use mathlib.Core.Path.{◌≡◌, refl, sym, ap, ◌∙◌}
use mathlib.Core.Bool.{Bool, true, false, cond, ◌&&◌, ◌||◌}
use mathlib.Core.List.{List}
use mathlib.Core.Logic.{◌⊎◌, inl, inr}
use Prim.Native.Nat.{ℕ, suc, ◌+◌, ◌-◌, ◌^◌, ◌≤◌, max}
use native.Mathlib.Omega.{arith}
use lib.Dec.{leb, ltb}
use lib.ListN.{length, length-set}
use Rattle.value.specs.declared.Words.{Words}
use Rattle.value.specs.Encoding.{decodes, Decodes}
use Rattle.value.specs.Same.{same, nil, is_nil}
use Rattle.value.proofs.Cases.{caseb, and_left, and_right}
use Rattle.value.proofs.Same.{same-eq, not_live}
use Rattle.value.specs.Refusals.{no_room, no_value, refusal_number}
use Rattle.key.specs.Canonical.{integer, largest, canonical_key}
use Rattle.key.proofs.Own.{by_key}
use Rattle.model.specs.Entries.{Entry, keys_of, distinct, has, find, keep, live}
use Rattle.model.specs.Table.{Room, Table, within, pairs, lookup}
use Rattle.model.specs.Growth.{optimal_size, stays, rehashed, grown_allowance}
use Rattle.model.specs.Calls.{Outcome, refuse, write_array, write_entry, append, place_in, grow, set_key, are_values, set_of, reserve_of}
use Rattle.model.specs.WellFormed.{WellFormed}
use Rattle.model.proofs.Entries.{updated, find-put, find-snoc, has-keep, find-keep, length-tabulate, get_d_tabulate}
use Rattle.model.proofs.Size.{size-le}
use Rattle.model.proofs.Array.{Inside, inside, within_more, has-pairs, lookup-within, lookup-array, lookup-outside, lookup_absent, find-pairs, pairs-write_array, pairs-write_entry, pairs-append}
use Rattle.std.specs.Prelude.{Ok, Err}
use Rattle.value.specs.declared.refusal.Refusal.{Refusal}

-- ---- set of words that are no value's, by the canonical key, or by the refusal
pub set-no-value : (room : Room) (t : Table) (key v : Words) → are_values key v ≡ false → set_of room t key v ≡ refuse no_value t
unfolding set_of
set-no-value room t key v d = rw d

module _ (room : Room) (t : Table) (key v : Words) (d : are_values key v ≡ true) where
  pub set_key_lem : (k : Words) → canonical_key key ≡ Ok k → set_of room t key v ≡ set_key room t k v
  unfolding set_of
  set_key_lem k e = rw (d, e)

  pub set-no-key : (r : Refusal) → canonical_key key ≡ Err r → set_of room t key v ≡ refuse (refusal_number r) t
  unfolding set_of
  set-no-key r e = rw (d, e)

-- what is not refused outright goes by the canonical key of a value
pub by-set : {P : Type 0} (room : Room) (t : Table) (key v : Words)
    → ((k : Words) → Decodes key → Decodes v → canonical_key key ≡ Ok k → set_of room t key v ≡ set_key room t k v → P)
    → ((n : ℕ) → set_of room t key v ≡ refuse n t → P) → P
by-set room t key v f g =
    caseb (are_values key v)
    (λ d. by_key key
    (λ k e. f k (and_left (decodes key) (decodes v) d) (and_right (decodes key) (decodes v) d) e (set_key_lem room t key v d k e))
    (λ r e. g (refusal_number r) (set-no-key room t key v d r e)))
    (λ d. g no_value (set-no-value room t key v d))

-- ---- the three writes
module _ (t : Table) (k v j : Words) (h : length t.array ≤ largest) where
  pub write_array-lookup : within (length t.array) k ≡ true → lookup (write_array t k v) j ≡ updated (lookup t) k v j
  write_array-lookup e =
      sym (find-pairs (write_array t k v) j (rw length-set h))
      ∙ ap (λ (l : List Entry). find l j) (pairs-write_array t k v e h)
      ∙ find-put (pairs t) k v j (has-pairs t k h ∙ ap (λ (b : Bool). b || has t.entries k) e)
      ∙ ap (λ (x : Words). cond (same k j) v x) (find-pairs t j h)

  pub write_entry-lookup : within (length t.array) k ≡ false → has t.entries k ≡ true → lookup (write_entry t k v) j ≡ updated (lookup t) k v j
  write_entry-lookup e g =
      sym (find-pairs (write_entry t k v) j h)
      ∙ ap (λ (l : List Entry). find l j) (pairs-write_entry t k v e h)
      ∙ find-put (pairs t) k v j (has-pairs t k h ∙ ap (λ (b : Bool). b || has t.entries k) e ∙ g)
      ∙ ap (λ (x : Words). cond (same k j) v x) (find-pairs t j h)

  pub append-lookup : (M : ℕ) → within (length t.array) k ≡ false → has t.entries k ≡ false → lookup (append t k v M) j ≡ updated (lookup t) k v j
  append-lookup M e g =
      sym (find-pairs (append t k v M) j h)
      ∙ ap (λ (l : List Entry). find l j) (pairs-append t k v M)
      ∙ find-snoc (pairs t) k v j (has-pairs t k h ∙ ap (λ (b : Bool). b || has t.entries k) e ∙ g)
      ∙ ap (λ (x : Words). cond (same k j) v x) (find-pairs t j h)

-- Nil set where Nil is changes nothing
pub nil-again : (m : Words → Words) (k v j : Words) → is_nil v ≡ true → m k ≡ nil → m j ≡ updated m k v j
nil-again m k v j d z =
    caseb (same k j)
    (λ e. rw e (ap m (sym (same-eq k j e)) ∙ z ∙ sym (same-eq v nil d)))
    (λ e. rw e)

-- ---- growth changes no value
pub rehashed-length : (t : Table) (S : ℕ) → length (rehashed t S).array ≡ max (length t.array) S
unfolding rehashed
rehashed-length t S = length-tabulate (max (length t.array) S) (λ i. lookup t (integer (suc i))) 0

-- what goes is Nil, where its key is not the array's
pub not-stays : (A : ℕ) (s : Entry) → within A s.key ≡ false → stays A s ≡ false → s.value ≡ nil
unfolding stays
not-stays A s w e = not_live s.value (left_false (live s) (rw w at e))
  where
    left_false : (a : Bool) → (a && true) ≡ false → a ≡ false
    left_false true q = q
    left_false false q = q

pub rehashed-lookup : (t : Table) (S : ℕ) (j : Words) → distinct (keys_of t.entries) → lookup (rehashed t S) j ≡ lookup t j
unfolding rehashed
rehashed-lookup t S j d =
    let A : ℕ = max (length t.array) S in
    let len : length (rehashed t S).array ≡ A = rehashed-length t S in
    caseb (within A j)
    (λ e. let r : Inside A j = inside A j e in
    lookup-array (rehashed t S) j r.i r.index (omega (arith, len, r.i<))
    ∙ get_d_tabulate A (λ i. lookup t (integer (suc i))) nil 0 r.i r.i<
    ∙ ap (λ (n : ℕ). lookup t (integer (suc n))) (omega arith)
    ∙ ap (lookup t) (sym r.is))
    (λ e. lookup-outside (rehashed t S) j (ap (λ (n : ℕ). within n j) len ∙ e)
    ∙ find-keep (stays A) t.entries j d (λ s p b. not-stays A s (ap (within A) p ∙ e) b)
    ∙ sym (lookup-outside t j (within_more (length t.array) A j (omega arith) e)))

-- ---- a set that is done, as a map sees it
pub record Sets (m : Words → Words) (k v : Words) (o : Outcome) : Type 0 where
  pub ok : o.refusal ≡ 0
  pub previously : o.previous ≡ m k
  pub now : (j : Words) → lookup o.table j ≡ updated m k v j

pub in-range : {room : Room} {t : Table} → WellFormed room t → length t.array ≤ 2 ^ 62
in-range w = omega (arith, w.fair.integers, w.array_fits)

pub numbered : {room : Room} {t : Table} → WellFormed room t → length t.array ≤ largest
numbered w = omega (arith, in-range w)

place_in-sets : (e : ℕ) (t r : Table) (k v : Words) → length r.array ≤ largest → ((j : Words) → lookup r j ≡ lookup t j) → has r.entries k ≡ false → lookup t k ≡ nil
    → Sets (lookup t) k v (place_in e t r k v) ⊎ (place_in e t r k v ≡ refuse no_room t)
unfolding place_in
place_in-sets e t r k v h g n z =
    caseb (within (length r.array) k)
    (λ b. rw b (inl (record { ok = refl; previously = sym z; now = λ j. write_array-lookup r k v j h b ∙ carried j })))
    (λ b. rw b (caseb (leb e (length r.entries))
    (λ c. rw c (inr refl))
    (λ c. rw c (inl (record { ok = refl; previously = sym z; now = λ j. append-lookup r k v j h (grown_allowance e (length r.entries) r.allowance) b n ∙ carried j })))))
  where
    carried : (j : Words) → updated (lookup r) k v j ≡ updated (lookup t) k v j
    carried j = ap (λ (x : Words). cond (same k j) v x) (g j)

pub absent-still : (t : Table) (S : ℕ) (k : Words) → has t.entries k ≡ false → has (rehashed t S).entries k ≡ false
unfolding rehashed
absent-still t S k h = has-keep (stays (max (length t.array) S)) t.entries k h

grow-sets : (room : Room) (t : Table) (k v : Words) → WellFormed room t → has t.entries k ≡ false → lookup t k ≡ nil
    → Sets (lookup t) k v (grow room t k v) ⊎ (grow room t k v ≡ refuse no_room t)
unfolding grow
grow-sets room t k v w c z =
    let S : ℕ = optimal_size room t k in
    place_in-sets room.entry_room t (rehashed t S) k v (omega (arith, rehashed-length t S, in-range w, size-le room t k, w.fair.integers))
    (λ j. rehashed-lookup t S j w.apart) (absent-still t S k c) z

-- every set of a canonical key is a map's set, or is refused for want of room
pub set-sets : (room : Room) (t : Table) (k v : Words) → WellFormed room t → Sets (lookup t) k v (set_key room t k v) ⊎ (set_key room t k v ≡ refuse no_room t)
unfolding set_key
set-sets room t k v w =
    let h : length t.array ≤ largest = numbered w in
    caseb (within (length t.array) k)
    (λ b. rw b (inl (record { ok = refl; previously = sym (lookup-within t k b); now = λ j. write_array-lookup t k v j h b })))
    (λ b. rw b (caseb (has t.entries k)
    (λ c. rw c (inl (record { ok = refl; previously = sym (lookup-outside t k b); now = λ j. write_entry-lookup t k v j h b c })))
    (λ c. let z : lookup t k ≡ nil = lookup_absent t k b c in
    rw c (caseb (is_nil v)
    (λ d. rw d (inl (record { ok = refl; previously = sym z; now = λ j. nil-again (lookup t) k v j d z })))
    (λ d. rw d (caseb (ltb (length t.entries) t.allowance)
    (λ f. rw f (inl (record { ok = refl; previously = sym z; now = λ j. append-lookup t k v j h t.allowance b c })))
    (λ f. rw f (grow-sets room t k v w c z))))))))

-- ---- reserve changes no value
pub purged-lookup : (t u : Table) (j : Words) → distinct (keys_of t.entries) → u.array ≡ t.array → u.entries ≡ keep live t.entries → lookup u j ≡ lookup t j
purged-lookup t u j d p q =
    let len : length u.array ≡ length t.array = ap length p in
    caseb (within (length t.array) j)
    (λ b. lookup-within u j (ap (λ (n : ℕ). within n j) len ∙ b) ∙ rw p (sym (lookup-within t j b)))
    (λ b. lookup-outside u j (ap (λ (n : ℕ). within n j) len ∙ b) ∙ ap (λ (l : List Entry). find l j) q
    ∙ find-keep live t.entries j d (λ s k e. not_live s.value e)
    ∙ sym (lookup-outside t j b))

pub reserve-lookup : (room : Room) (t : Table) (n : ℕ) (j : Words) → WellFormed room t → lookup (reserve_of room t n).table j ≡ lookup t j
unfolding reserve_of
reserve-lookup room t n j w =
    caseb (leb n (t.allowance - length t.entries))
    (λ b. rw b)
    (λ b. rw b (caseb (ltb room.entry_room (length (keep live t.entries) + n))
    (λ d. rw d)
    (λ d. rw d (purged-lookup t (record { array = t.array; entries = keep live t.entries; allowance = max t.allowance (length (keep live t.entries) + n) }) j w.apart refl refl))))
