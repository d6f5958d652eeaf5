-- The array after entries went there: on a sound store its words are those of the values that its keys had in the table. Assumes nothing.
use Rattle.std.proofs.Common.{◌≡◌, ℕ, suc, ◌+◌, ◌*◌, ◌/◌, ◌≤◌, ◌<◌, true, false, cond, ◌&&◌, List, [], ◌∷◌, length, get_or, set, eqb, refl, sym, ap, ◌∙◌, inl, inr, arith, length-set, get_or-set_same, get_or-set_other}
use Rattle.std.proofs.lemmas.Bool.{cases_lt}
use Rattle.std.proofs.lemmas.Bool.Decides.{nat_tests}
use borrow.Author.Tests.{eqb-true, eqb-false}
use Rattle.value.specs.declared.Words.{Words}
use Rattle.value.specs.Encoding.{words}
use Rattle.value.specs.Same.{same, nil, is_nil}
use Rattle.value.proofs.Cases.{caseb, clash, and_left, and_right}
use Rattle.value.proofs.Same.{same-eq, eq-same, ne_same}
use Rattle.key.specs.Canonical.{integer, largest}
use Rattle.lent.specs.Lent.{value_at, lent_words}
use Rattle.lent.proofs.Put.{put-lent}
use Rattle.model.specs.Entries.{Entry, keys_of, distinct, has, find, live}
use Rattle.model.specs.Table.{Table, offset, within, place_of, lookup}
use Rattle.model.specs.Growth.{tabulate}
use Rattle.model.specs.WellFormed.{Outside}
use Rattle.model.proofs.Entries.{find_absent, each-key, length-tabulate, tabulate-at, tabulate-is, tabulate-cong}
use Rattle.model.proofs.Array.{index-integer, inside, within-integer, outside-integer, lookup-array, lookup-outside}
use Rattle.store.specs.Store.{Store}
use Rattle.store.specs.Written.{Sound, table_of, entries_in}
use Rattle.store.proofs.Views.{length-array, values-lent}
use Rattle.store.proofs.Sound.{sound-formed, sound-clauses}
use Rattle.rehash.specs.Rehash.{sent, moved}

-- ---- values by place, one of them written over
set-tabulate : (n : ℕ) (f g : ℕ → Words) (i : ℕ) (v : Words) → g i ≡ v → ((j : ℕ) → (j ≡ i → ⊥) → g j ≡ f j)
    → set (tabulate n f 0) i v ≡ tabulate n g 0
set-tabulate n f g i v p h =
    let l = set (tabulate n f 0) i v in
    let from : length (tabulate n f 0) ≡ n = length-tabulate n f 0 in
    let len : length l ≡ n = length-set (tabulate n f 0) i v ∙ from in
    sym (ap (λ (m : ℕ). tabulate m g 0) (sym len)
    ∙ tabulate-is l g nil
    (λ j b. caseb (eqb j i)
    (λ e. let q : j ≡ i = eqb-true j i e in
    ap g q ∙ p ∙ sym (ap (λ (x : ℕ). get_or l x nil) q ∙ get_or-set_same (tabulate n f 0) i v nil (omega arith)))
    (λ e. let q : j ≡ i → ⊥ = eqb-false j i e in
    h j q ∙ sym (get_or-set_other (tabulate n f 0) i j v nil q ∙ tabulate-at n f nil j (omega arith)))))

-- the value at place i by its key
abbrev pub keyed : Table → ℕ → Words
keyed t i = lookup t (integer (suc i))

-- a value, or another where it is Nil
abbrev over : Words → Words → Words
over v w = cond (is_nil v) w v

-- values by place after an entry went there
abbrev taken : Entry → (ℕ → Words) → ℕ → Words
taken s f i = cond (live s && same s.key (integer (suc i))) s.value (f i)

over-nil : (w : Words) → over nil w ≡ w
unfolding same
over-nil w = refl

-- an entry before others that have other keys
joined : (s : Entry) (ss : List Entry) (k w : Words) → has ss s.key ≡ false
    → over (find ss k) (cond (live s && same s.key k) s.value w) ≡ over (find (s ∷ ss) k) w
joined s ss k w h =
    caseb (same s.key k)
    (λ e. let none : find ss k ≡ nil = ap (find ss) (sym (same-eq s.key k e)) ∙ find_absent ss s.key h in
    rw (e, none, over-nil) (grind (arith, nat_tests)))
    (λ e. rw e (grind (arith, nat_tests)))

module _ (S n : ℕ) (room : 2 * S ≤ n) (small : S ≤ largest) where
  sent-lent : (s : Entry) (f : ℕ → Words) → sent S (lent_words n (tabulate S f 0)) s ≡ lent_words n (tabulate S (taken s f) 0)
  unfolding sent
  sent-lent s f =
      caseb (live s && within S s.key)
      (λ e. let r = inside S s.key (and_right (live s) (within S s.key) e) in
      let alive : live s ≡ true = and_left (live s) (within S s.key) e in
      let at : place_of s.key ≡ r.i = ap offset r.index in
      let long : length (tabulate S f 0) ≡ S = length-tabulate S f 0 in
      rw (e, at) (put-lent n (tabulate S f 0) r.i s.value (omega (arith, r.i<)) (omega arith)
      ∙ ap (lent_words n)
      (set-tabulate S f (taken s f) r.i s.value
      (λ x. cond (alive x && eq-same s.key (integer (suc r.i)) r.is x) s.value (f r.i))
      (λ j q. let other = ne_same s.key (integer (suc j)) (λ p. q (omega (arith, ap (λ (k : Words). k.payload) (sym p ∙ r.is)))) in
      λ x. cond (alive x && other x) s.value (f j)))))
      (λ e. rw e (ap (lent_words n)
      (tabulate-cong S f (taken s f) 0
      (λ j a b. caseb (live s && same s.key (integer (suc j)))
      (λ y. let k : s.key ≡ integer (suc j) = same-eq s.key (integer (suc j)) (and_right (live s) (same s.key (integer (suc j))) y) in
      clash (rw (and_left (live s) (same s.key (integer (suc j))) y, k, within-integer S j (omega arith) (omega arith))) e)
      (λ y. rw y)))))

  -- all of them, no two with one key
  moved-lent : (l : List Entry) (f : ℕ → Words) → distinct (keys_of l)
      → moved S (lent_words n (tabulate S f 0)) l ≡ lent_words n (tabulate S (λ i. over (find l (integer (suc i))) (f i)) 0)
  moved-lent [] f d = ap (lent_words n) (tabulate-cong S f (λ i. over nil (f i)) 0 (λ i a b. sym (over-nil (f i))))
  moved-lent (s ∷ ss) f d =
      ap (λ (ws : List ℕ). moved S ws ss) (sent-lent s f)
      ∙ moved-lent ss (taken s f) d.1
      ∙ ap (lent_words n)
      (tabulate-cong S (λ i. over (find ss (integer (suc i))) (taken s f i)) (λ i. over (find (s ∷ ss) (integer (suc i))) (f i)) 0
      (λ i a b. joined s ss (integer (suc i)) (f i) d.0))

-- ---- a sound store, where the array has the size S then
module _ (s : Store) (g : Sound s) (S : ℕ) (more : s.sizes.size ≤ S) (room : S ≤ length s.slices.array / 2) where
  abbrev A : ℕ
  A = s.sizes.size

  abbrev aw : List ℕ
  aw = s.slices.array

  abbrev entries : List Entry
  entries = entries_in s.slices.entries s.sizes.count

  small : S ≤ largest
  small = omega (arith, room, g.lengths.array_most)

  -- below A no entry has the key, from A on no word is used
  old : (i : ℕ) → i < A → over (find entries (integer (suc i))) (value_at aw i) ≡ keyed (table_of s) i
  unfolding table_of
  old i h =
      let k : Words = integer (suc i) in
      let L : ℕ = length (table_of s).array in
      let outside : has entries k ≡ true → within L k ≡ false =
      each-key (λ x. within L x ≡ false) (Outside L) entries (λ x o. o) (sound-formed s g).outside k in
      let none : has entries k ≡ false =
      caseb (has entries k)
      (λ e. clash (within-integer L i (omega (arith, length-array s)) (omega (arith, small, more))) (outside e))
      (λ e. e) in
      ap (λ (v : Words). over v (value_at aw i)) (find_absent entries k none)
      ∙ over-nil (value_at aw i)
      ∙ sym (lookup-array (table_of s) k i (index-integer i (omega (arith, small, more))) (omega (arith, length-array s)) ∙ tabulate-at A (value_at aw) nil i h)

  new : (i : ℕ) → A ≤ i → i < S → over (find entries (integer (suc i))) (value_at aw i) ≡ keyed (table_of s) i
  unfolding table_of
  new i h l =
      let v : Words = find entries (integer (suc i)) in
      let unused = (sound-clauses s g).array_unused in
      let kind = unused (2 * i) (omega arith) (omega (arith, room)) in
      let payload = unused (2 * i + 1) (omega arith) (omega (arith, room)) in
      (λ j. over v (words (kind j) (payload j)))
      ∙ caseb (is_nil v) (λ e. rw e (sym (same-eq v nil e))) (λ e. rw e)
      ∙ sym (lookup-outside (table_of s) (integer (suc i)) (outside-integer (length (table_of s).array) i (omega (arith, length-array s))))

  pub moved-lookup : moved S aw entries ≡ lent_words (length aw) (tabulate S (keyed (table_of s)) 0)
  unfolding table_of
  moved-lookup =
      let wide : 2 * S ≤ length aw = omega (arith, room) in
      ap (λ (ws : List ℕ). moved S ws entries) (values-lent aw S wide (λ i h. (sound-clauses s g).array_unused i (omega (arith, more))))
      ∙ moved-lent S (length aw) wide small entries (value_at aw) (sound-formed s g).apart
      ∙ ap (lent_words (length aw))
      (tabulate-cong S (λ i. over (find entries (integer (suc i))) (value_at aw i)) (keyed (table_of s)) 0
      (λ i a b. elim (cases_lt i A) [ inl l ↦ old i l | inr l ↦ new i l (omega arith) ]))
