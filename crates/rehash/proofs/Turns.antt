-- Entries one by one: where one goes, how many stay and which is the first that does not, and the turns of the loop that compacts them. Assumes nothing.
use Rattle.std.proofs.Common.{◌≡◌, ℕ, zero, suc, ◌+◌, ◌-◌, ◌*◌, ◌≤◌, ◌<◌, Bool, true, false, cond, List, [], ◌∷◌, ◌++◌, length, get_or, Option, Some, None, MatchOption, refl, sym, ap, ◌∙◌, inl, inr, append-nil, zero-add, add-zero, add-one, arith}
use Rattle.std.specs.List.{filter, range_with_len}
use Rattle.std.specs.Option.{unwrap_or}
use Rattle.std.proofs.lemmas.Bool.Decides.{nat_tests}
use Rattle.value.specs.Encoding.{words}
use Rattle.value.proofs.Cases.{caseb}
use Rattle.lent.specs.Lent.{value_at, put_entry}
use Rattle.lent.proofs.Put.{length-put-entry, put-entry-at, put-entry-word}
use Rattle.model.specs.Entries.{Entry, entry, keep, Each}
use Rattle.model.specs.Growth.{stays, tabulate}
use Rattle.model.proofs.Entries.{keep_snoc, keep_all, each-tabulate, tabulate-snoc, tabulate-cong}
use Rattle.store.specs.Written.{entry_at, entries_in}
use Rattle.rehash.specs.Rehash.{staying_in, StaysTo, Surveyed, sent, moved, Compacted}

-- ---- an entry that stays is not sent
sent-stays : (S : ℕ) (ws : List ℕ) (s : Entry) → stays S s ≡ true → sent S ws s ≡ ws
unfolding stays sent
sent-stays S ws s e = grind (arith, nat_tests)

-- ---- all of them
moved_none : (S : ℕ) (ws : List ℕ) (l : List Entry) → Each (λ (s : Entry). stays S s ≡ true) l → moved S ws l ≡ ws
moved_none S ws [] a = refl
moved_none S ws (s ∷ ss) a = rw (sent-stays S ws s a.0) (moved_none S ws ss a.1)

moved-snoc : (S : ℕ) (ws : List ℕ) (l : List Entry) (s : Entry) → moved S ws (l ++ (s ∷ [])) ≡ sent S (moved S ws l) s
moved-snoc S ws [] s = refl
moved-snoc S ws (x ∷ xs) s = moved-snoc S (sent S ws x) xs s

-- ---- words that are the same hold the same entries
pub entry-same : (xs ys : List ℕ) (i : ℕ) → ((p : ℕ) → 4 * i ≤ p → p < 4 * i + 4 → get_or xs p 0 ≡ get_or ys p 0) → entry_at xs i ≡ entry_at ys i
entry-same xs ys i h =
    let a = h (2 * (2 * i)) (omega arith) (omega arith) in
    let b = h (2 * (2 * i) + 1) (omega arith) (omega arith) in
    let c = h (2 * (2 * i + 1)) (omega arith) (omega arith) in
    let d = h (2 * (2 * i + 1) + 1) (omega arith) (omega arith) in
    λ j. entry (words (a j) (b j)) (words (c j) (d j))

pub entries-same : (xs ys : List ℕ) (n : ℕ) → ((p : ℕ) → p < 4 * n → get_or xs p 0 ≡ get_or ys p 0) → entries_in xs n ≡ entries_in ys n
entries-same xs ys n h = tabulate-cong n (entry_at xs) (entry_at ys) 0 (λ i a b. entry-same xs ys i (λ p l g. h p (omega arith)))

-- ---- one entry more
module _ (ws : List ℕ) (i : ℕ) where
  entries-more : entries_in ws (i + 1) ≡ entries_in ws i ++ (entry_at ws i ∷ [])
  entries-more =
      let p : 0 + i ≡ i = omega arith in
      ap (entries_in ws) (add-one i) ∙ tabulate-snoc i (entry_at ws) 0 ∙ ap (λ (j : ℕ). entries_in ws i ++ (entry_at ws j ∷ [])) p

  staying-more : (S : ℕ) (b : Bool) → stays S (entry_at ws i) ≡ b → staying_in ws (i + 1) S ≡ staying_in ws i S ++ cond b (entry_at ws i ∷ []) []
  staying-more S b e =
      ap (keep (stays S)) entries-more
      ∙ keep_snoc (stays S) (entries_in ws i) (entry_at ws i)
      ∙ ap (λ (c : Bool). staying_in ws i S ++ cond c (entry_at ws i ∷ []) []) e

-- ---- survey: how many of the entries from a on stay, and where the first ones all do
module _ (p : Entry → Bool) (f : ℕ → Entry) where
  stay-filter : (n a : ℕ) → length (keep p (tabulate n f a)) ≡ length (filter (λ i. p (f i)) (range_with_len a n))
  stay-filter zero a = refl
  stay-filter (suc n) a =
      caseb (p (f a))
      (λ e. rw (e, add-one a) (ap suc (stay-filter n (suc a))))
      (λ e. rw (e, add-one a) (stay-filter n (suc a)))

  stay-split : (first n a : ℕ) → ((i : ℕ) → a ≤ i → i < a + first → p (f i) ≡ true)
      → length (keep p (tabulate (first + n) f a)) ≡ first + length (filter (λ i. p (f i)) (range_with_len (a + first) n))
  stay-split zero n a h = rw (zero-add n, add-zero a) (omega (arith, stay-filter n a))
  stay-split (suc first) n a h =
      let e : suc first + n ≡ suc (first + n) = omega arith in
      let d : a + suc first ≡ suc a + first = omega arith in
      rw (e, d, h a (omega arith) (omega arith)) (omega (arith, stay-split first n (suc a) (λ i l g. h i (omega arith) (omega arith))))

-- `first` by a search for one that goes, and what is counted from there on
module _ (ws : List ℕ) (e S : ℕ) where
  abbrev Stays : ℕ → Type 0
  Stays i = stays S (entry_at ws i) ≡ true

  abbrev Goes : ℕ → Type 0
  Goes i = stays S (entry_at ws i) ≡ false

  survey-number : (first n : ℕ) → first ≤ e → StaysTo ws first S → n ≡ length (filter (λ i. stays S (entry_at ws i)) (range_with_len first (e - first)))
      → first + n ≡ length (staying_in ws e S)
  survey-number first n h b q =
      let all : first + (e - first) ≡ e = omega arith in
      let split = rw (all, zero-add) at (stay-split (stays S) (entry_at ws) first (e - first) 0 (λ i l g. b i (omega arith))) in
      omega (arith, split, q)

  pub surveyed : (r : Option ℕ) (first n : ℕ) → first ≡ unwrap_or r e
      → MatchOption r ((k : ℕ) → 0 ≤ k → k < e → Stays k) (λ i. (0 ≤ i) × (i < e) × Goes i × ((k : ℕ) → 0 ≤ k → k < i → Stays k))
      → n ≡ length (filter (λ i. stays S (entry_at ws i)) (range_with_len first (e - first))) → Surveyed ws e S (record { number = first + n; first = first })
  surveyed None first n f h q =
      let before : StaysTo ws first S = λ i l. h i (omega arith) (omega arith) in
      record { number = survey-number first n (omega arith) before q; inside = omega arith; before = before; stops = λ l. absurd (omega arith) }
  surveyed (Some i) first n f h q =
      let before : StaysTo ws first S = λ j l. h.3 j (omega arith) (omega arith) in
      record { number = survey-number first n (omega arith) before q; inside = omega arith; before = before; stops = λ l. rw f h.2 }

-- ---- compact
pub compact-start : {aw ew : List ℕ} {first S : ℕ} → StaysTo ew first S → Compacted aw ew first S first first aw ew
compact-start {aw} {ew} {first} {S} h =
    let all : Each (λ (s : Entry). stays S s ≡ true) (entries_in ew first) =
    each-tabulate (λ (s : Entry). stays S s ≡ true) first (entry_at ew) 0 (λ i a b. h i (omega arith)) in
    record {
      some = omega arith;
      few = omega arith;
      entries = sym (keep_all (stays S) (entries_in ew first) all);
      array = sym (moved_none S aw (entries_in ew first) all);
      front = λ p l. refl;
      rest = λ p l. refl;
      array_long = refl;
      entries_long = refl;
    }

module _ {aw ew : List ℕ} {first S i n : ℕ} {aw' ew' : List ℕ} (c : Compacted aw ew first S i n aw' ew') where
  -- entry i is still where it was
  here : entry_at ew' i ≡ entry_at ew i
  here = entry-same ew' ew i (λ p l g. c.rest p l)

  moved_more : moved S aw (entries_in ew (i + 1)) ≡ sent S aw' (entry_at ew i)
  moved_more =
      ap (moved S aw) (entries-more ew i)
      ∙ moved-snoc S aw (entries_in ew i) (entry_at ew i)
      ∙ ap (λ (ws : List ℕ). sent S ws (entry_at ew i)) (sym c.array)

  pub compact-stays : 4 * i + 4 ≤ length ew → stays S (entry_at ew' i) ≡ true
      → (ew'' : List ℕ) → ew'' ≡ put_entry ew' n (value_at ew' (2 * i)) (value_at ew' (2 * i + 1)) → Compacted aw ew first S (i + 1) (n + 1) aw' ew''
  compact-stays room y ew'' p =
      let k = value_at ew' (2 * i) in
      let v = value_at ew' (2 * i + 1) in
      let stayed : stays S (entry_at ew i) ≡ true = ap (stays S) (sym here) ∙ y in
      let at = put-entry-at ew' n k v (omega (arith, c.few, c.entries_long)) in
      let put : entry_at (put_entry ew' n k v) n ≡ entry_at ew i = (λ j. entry (at.0 j) (at.1 j)) ∙ here in
      let others : entries_in (put_entry ew' n k v) n ≡ staying_in ew i S =
      entries-same (put_entry ew' n k v) ew' n (λ q l. put-entry-word ew' n q k v (inl l)) ∙ c.entries in
      rw p (record {
        some = omega (arith, c.some);
        few = omega (arith, c.few);
        entries =
            entries-more (put_entry ew' n k v) n
            ∙ (λ j. others j ++ (put j ∷ []))
            ∙ sym (staying-more ew i S true stayed);
        array = sym (moved_more ∙ sent-stays S aw' (entry_at ew i) stayed);
        front = λ q l. put-entry-word ew' n q k v (inl (omega (arith, c.some))) ∙ c.front q l;
        rest = λ q l. put-entry-word ew' n q k v (inr (omega (arith, c.few))) ∙ c.rest q (omega arith);
        array_long = c.array_long;
        entries_long = length-put-entry ew' n k v ∙ c.entries_long;
      })

  pub compact-goes : stays S (entry_at ew' i) ≡ false
      → (aw'' : List ℕ) → aw'' ≡ sent S aw' (entry_at ew' i) → length aw'' ≡ length aw' → Compacted aw ew first S (i + 1) n aw'' ew'
  compact-goes y aw'' p long =
      record {
        some = c.some;
        few = omega (arith, c.few);
        entries = c.entries ∙ sym (staying-more ew i S false (ap (stays S) (sym here) ∙ y) ∙ append-nil (staying_in ew i S));
        array = p ∙ ap (sent S aw') here ∙ sym moved_more;
        front = c.front;
        rest = λ q l. c.rest q (omega arith);
        array_long = long ∙ c.array_long;
        entries_long = c.entries_long;
      }
