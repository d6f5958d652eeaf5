-- What a script sees of a set and a reserve, by get, for any values as keys (01, 'Calls'): after a set that is done, get gives the value at
-- every key that is this one, and elsewhere what it gave before; what the set answers is what get gave before. Assumes nothing.
use mathlib.Core.Path.{◌≡◌, sym, ◌∙◌}
use mathlib.Core.Logic.{◌⊎◌, inl, inr}
use mathlib.Core.Bool.{true}
use Prim.Native.Nat.{ℕ}
use Rattle.value.specs.declared.Words.{Words}
use Rattle.value.specs.Same.{nil}
use Rattle.value.proofs.Same.{same_refl}
use Rattle.value.specs.Refusals.{no_room}
use Rattle.key.specs.Canonical.{canonical_key}
use Rattle.key.proofs.Own.{by_key}
use Rattle.model.specs.Table.{Room, Table, lookup, get_of}
use Rattle.model.specs.Calls.{refuse, set_key, are_values, set_of, reserve_of}
use Rattle.model.specs.WellFormed.{WellFormed}
use Rattle.model.specs.Means.{Means}
use Rattle.model.proofs.Map.{set_key_lem, Sets, set-sets, reserve-lookup}
use Rattle.model.proofs.Next.{get_key}
use Rattle.std.specs.Prelude.{Ok, Err}
use Rattle.value.specs.declared.refusal.Refusal.{Refusal}

-- a set of a key is done, and means this, or is refused for want of room
pub set-means : (room : Room) (t : Table) (key k v : Words) → WellFormed room t → are_values key v ≡ true → canonical_key key ≡ Ok k
    → (((set_of room t key v).refusal ≡ 0) × Means t key k v (set_of room t key v)) ⊎ (set_of room t key v ≡ refuse no_room t)
set-means room t key k v w d c = rw (set_key_lem room t key v d k c) (go (set-sets room t k v w))
  where
    go : Sets (lookup t) k v (set_key room t k v) ⊎ (set_key room t k v ≡ refuse no_room t)
        → (((set_key room t k v).refusal ≡ 0) × Means t key k v (set_key room t k v)) ⊎ (set_key room t k v ≡ refuse no_room t)
    go (inr p) = inr p
    go (inl s) = inl (
      s.ok,
      record {
        previously = s.previously ∙ sym (get_key t key k c);
        here = λ j e. get_key (set_key room t k v).table j k e ∙ s.now k ∙ rw (same_refl k);
        elsewhere = λ j i e n. get_key (set_key room t k v).table j i e ∙ s.now i ∙ rw n (sym (get_key t j i e));
      },
    )

-- a key that is none has no value
pub get-no-key : (t : Table) (key : Words) (r : Refusal) → canonical_key key ≡ Err r → get_of t key ≡ nil
unfolding get_of
get-no-key t key r e = rw e

-- reserve, done or refused, changes no value
pub reserve-means : (room : Room) (t : Table) (n : ℕ) (key : Words) → WellFormed room t → get_of (reserve_of room t n).table key ≡ get_of t key
reserve-means room t n key w =
    let u : Table = (reserve_of room t n).table in
    by_key key
    (λ k e. get_key u key k e ∙ reserve-lookup room t n k w ∙ sym (get_key t key k e))
    (λ m e. get-no-key u key m e ∙ sym (get-no-key t key m e))
