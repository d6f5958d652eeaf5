-- Demand 1 on stores: a set or a reserve is refused for the reasons of 01 and for no other, and changes no word then; and a set that is done
-- shows in the gets after it. Assumes nothing.
use mathlib.Core.Path.{◌≡◌, sym, ap, subst, ◌∙◌}
use mathlib.Core.Bool.{true, false}
use mathlib.Core.Logic.{inl, inr}
use Prim.Native.Nat.{ℕ}
use native.Mathlib.Omega.{arith}
use Rattle.value.specs.declared.Words.{Words}
use Rattle.value.specs.Encoding.{decodes, Decodes}
use Rattle.value.specs.Same.{same}
use Rattle.value.proofs.Cases.{caseb, and_left}
use Rattle.value.specs.Refusals.{no_room, no_value}
use Rattle.key.specs.Canonical.{canonical_key}
use Rattle.model.specs.Calls.{Outcome, are_values}
use Rattle.model.specs.Refused.{Refused}
use Rattle.model.specs.Means.{Means}
use Rattle.model.proofs.Map.{set-no-value}
use Rattle.model.proofs.Refusals.{set-refused, refused-set, reserve-refused, refused-reserve}
use Rattle.model.proofs.Meaning.{set-means, reserve-means}
use Rattle.store.specs.declared.Record.{Record}
use Rattle.store.specs.Store.{Slices, Store, room_for}
use Rattle.store.specs.Written.{Sound, table_of}
use Rattle.store.proofs.Sound.{sound-formed}
use Rattle.reads.specs.Reads.{GetAnswers}
use Rattle.reads.proofs.Unique.{got_words, get-done, get-answered}
use Rattle.writes.specs.Writes.{set_left, reserve_left, set_outcome, SetDone, ReserveDone}
use Rattle.demands.specs.Refusals.{SetRefuses, ReserveRefuses}
use Rattle.table.proofs.Outcomes.{refusal_is, previous-is, get_left, set-stays, reserve-stays}
use Rattle.std.specs.Prelude.{Result, Ok}
use Rattle.value.specs.declared.refusal.Refusal.{Refusal}

-- ---- set
module _ (s : Store) (key v : Words) (after : Slices) (r : Result (Words × Record) Refusal) (S : Sound s) (p : SetDone s key v after r) where
  pub set-refuses : SetRefuses s key v (set_left s.sizes after r)
  set-refuses = record {
    only = λ n.
        let e = refusal_is S p in
        subst (Refused (room_for s) (table_of s) key v) (sym e) (set-refused (room_for s) (table_of s) key v (sound-formed s S) (λ z. n (e ∙ z)));
    always = λ f. refusal_is S p ∙ refused-set (room_for s) (table_of s) key v f;
    unchanged = p.does.refused;
  }

  -- done: then the words that were passed are values'
  module _ (k : Words) (c : canonical_key key ≡ Ok k) (z : (set_left s.sizes after r).refusal ≡ 0) where
    done : (set_outcome s key v).refusal ≡ 0
    done = sym (refusal_is S p) ∙ z

    values : are_values key v ≡ true
    values =
        caseb (are_values key v) (λ d. d)
        (λ d. let x : ◌≡◌ {A = ℕ} no_value 0 = sym (ap (λ (o : Outcome). o.refusal) (set-no-value (room_for s) (table_of s) key v d)) ∙ done in absurd (omega arith))

    means : Means (table_of s) key k v (set_outcome s key v)
    means = elim (set-means (room_for s) (table_of s) key k v (sound-formed s S) values c) [
      | inl m ↦ m.1
      | inr e ↦ let x : ◌≡◌ {A = ℕ} no_room 0 = sym (ap (λ (o : Outcome). o.refusal) e) ∙ done in absurd (omega arith)
    ]

    left : Sound (set_left s.sizes after r).store
    left = (set-stays key v S p).sound

    -- at every value that is this key, a get shows the value
    pub last-shown : (j : Words) → Decodes j → canonical_key j ≡ Ok k → (a : Result Words Refusal) → GetAnswers (set_left s.sizes after r).store j a → a ≡ Ok v
    last-shown j d e a q = get_left S p left j a q ∙ rw d (ap Ok (means.here j e))

    pub previous-shown : (a : Result Words Refusal) → GetAnswers s key a → a ≡ Ok (set_left s.sizes after r).previous
    previous-shown a q = get-done _ key a q S (and_left (decodes key) (decodes v) values) ∙ ap Ok (sym (previous-is S p ∙ means.previously))

    pub others-shown : (j i : Words) → canonical_key j ≡ Ok i → same k i ≡ false → (a b : Result Words Refusal)
        → GetAnswers (set_left s.sizes after r).store j a → GetAnswers s j b → a ≡ b
    others-shown j i e n a b q o = get_left S p left j a q ∙ ap (got_words j) (means.elsewhere j i e n) ∙ sym (get-answered _ j b o S)

-- ---- reserve
module _ (s : Store) (n : ℕ) (after : Slices) (r : Result Record Refusal) (S : Sound s) (p : ReserveDone s n after r) where
  pub reserve-refuses : ReserveRefuses s n (reserve_left s.sizes after r)
  reserve-refuses = record {
    only = λ f.
        let e = refusal_is S p in
        let x = reserve-refused (room_for s) (table_of s) n (λ z. f (e ∙ z)) in
        (x.1, e ∙ ap (λ (o : Outcome). o.refusal) x.0);
    always = λ f. refusal_is S p ∙ ap (λ (o : Outcome). o.refusal) (refused-reserve (room_for s) (table_of s) n f.0) ∙ sym f.1;
    unchanged = p.does.refused;
  }

  -- done or refused, it changes no get
  pub all_shown : (j : Words) (a b : Result Words Refusal) → GetAnswers (reserve_left s.sizes after r).store j a → GetAnswers s j b → a ≡ b
  all_shown j a b q o =
      get_left S p (reserve-stays n S p).sound j a q ∙ ap (got_words j) (reserve-means (room_for s) (table_of s) n j (sound-formed s S)) ∙ sym (get-answered _ j b o S)
