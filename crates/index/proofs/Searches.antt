-- What a search answers: on any words only entries below the count and places in the index; on a right index the entry that has the key,
-- or where it would go. Assumes nothing.
use Rattle.std.proofs.Common.{◌≡◌, ℕ, zero, suc, ◌+◌, ◌-◌, ◌<◌, ◌≤◌, Bool, true, false, ltb, ◌⊎◌, List, length, get_or, sym, refl, ap, ◌∙◌, subst, inl, inr, ⊎_elim, le_of_suc-le-suc, not-suc-le-zero, eq-or-lt_of_le, arith, ltb-true, le-ltb, lt-ltb}
use Rattle.value.specs.declared.Words.{Words}
use Rattle.value.specs.Same.{same}
use Rattle.value.proofs.Cases.{caseb, clash, and_left, and_right}
use Rattle.value.proofs.Same.{same-eq, eq-same}
use Rattle.lent.specs.Lent.{key_at}
use Rattle.index.specs.declared.Found.{Found}
use Rattle.index.specs.declared.Found.TheVariants.{At, Absent, Full}
use Rattle.index.specs.Home.{home_of, next_place}
use Rattle.index.specs.Index.{climb, reached, is_empty, not_before, homes, Distinct, Right}
use Rattle.index.specs.Search.{hits, stops, answer, answer_at, searched, Stands, Finds, AllFound}
use Rattle.index.proofs.Home.{home-lt}
use Rattle.index.proofs.Climb.{chain-to, climb-at, Going, climb-lt, going-turn, going-stop, going_end, going-missed}
use Rattle.index.proofs.Insert.{reached-empty, Held, index-held, earlier}

-- ---- what is hit
module _ (ws : List ℕ) (e : ℕ) (k : Words) where
  hit-yes : (i : ℕ) → i < e → key_at ws i ≡ k → hits ws e k i ≡ true
  unfolding hits
  hit-yes i h q = rw (lt-ltb i e h) (eq-same (key_at ws i) k q)

  hit-is : (i : ℕ) → hits ws e k i ≡ true → (i < e) × (key_at ws i ≡ k)
  unfolding hits
  hit-is i h = (ltb-true i e (and_left (ltb i e) (same (key_at ws i) k) h), same-eq (key_at ws i) k (and_right (ltb i e) (same (key_at ws i) k) h))

  pub hit-past : (i : ℕ) → e ≤ i → hits ws e k i ≡ false
  unfolding hits
  hit-past i h = rw (le-ltb i e h)

  pub hit_same : (i : ℕ) → i < e → hits ws e k i ≡ same (key_at ws i) k
  unfolding hits
  hit_same i h = rw (lt-ltb i e h)

-- one of the first e is hit, or none
some-hit : (hit : ℕ → Bool) (e : ℕ) → ((i : ℕ) × (i < e) × (hit i ≡ true)) ⊎ ((i : ℕ) → i < e → hit i ≡ false)
some-hit hit zero = inr (λ i l. absurd (not-suc-le-zero l))
some-hit hit (suc e) =
    caseb (hit e)
    (λ y. inl (e, omega arith, y))
    (λ n. ⊎_elim
    (λ (i, l, y). inl (i, omega arith, y))
    (λ all. inr (λ i l. ⊎_elim (λ q. rw q n) (λ q. all i q) (eq-or-lt_of_le (le_of_suc-le-suc l))))
    (some-hit hit e))

-- ---- the word where a search is, as code tests it
stops-word : (hit : ℕ → Bool) (w : ℕ) → (w ≡ 0 → ⊥) → stops hit w ≡ hit (w - 1)
stops-word hit zero z = absurd (z refl)
stops-word hit (suc i) z = let p : suc i - 1 ≡ i = omega arith in rw p

answer-hit : (hit : ℕ → Bool) (p w : ℕ) → (w ≡ 0 → ⊥) → hit (w - 1) ≡ true → answer hit p w ≡ At (w - 1)
answer-hit hit p zero z y = absurd (z refl)
answer-hit hit p (suc i) z y = let q : suc i - 1 ≡ i = omega arith in rw (q, rw q at y)

answer-full : (hit : ℕ → Bool) (p w : ℕ) → stops hit w ≡ false → answer hit p w ≡ Full
answer-full hit p zero m = clash refl m
answer-full hit p (suc i) m = rw m

-- ---- where none is hit, a search stops at empty words only
stops-none : (hit : ℕ → Bool) → ((i : ℕ) → hit i ≡ false) → (w : ℕ) → stops hit w ≡ is_empty w
stops-none hit none zero = refl
stops-none hit none (suc i) = none i

climb-cong : (stop stop' : ℕ → Bool) → ((w : ℕ) → stop w ≡ stop' w) → (n : ℕ) (l : List ℕ) (f j : ℕ) → climb stop n l f j ≡ climb stop' n l f j
unfolding climb
climb-cong stop stop' q n l zero j = refl
climb-cong stop stop' q n l (suc f) j = rw (q (get_or l j 0), climb-cong stop stop' q n l f)

-- ---- on a right index
module _ (ws : List ℕ) (e : ℕ) (l : List ℕ) (k : Words) (R : Right ws e l) where
  abbrev n : ℕ
  n = length l

  abbrev hit : ℕ → Bool
  hit = hits ws e k

  home-in : home_of n k < n
  home-in = home-lt n k (omega (arith, R.room))

  H : Held n (homes n ws) e l
  H = subst (Held n (homes n ws) e) (sym R.index) (index-held n (homes n ws) e (omega (arith, R.room)) (λ i q. home-lt n (key_at ws i) (omega (arith, R.room))))

  pub search-finds : (i : ℕ) → i < e → key_at ws i ≡ k → searched ws e l k ≡ At i
  unfolding searched
  search-finds i lt q =
      let (p, s) = H.held i lt in
      let from : homes n ws i ≡ home_of n k = ap (home_of n) q in
      let stopped : reached (stops hit) l (home_of n k) ≡ p =
      climb-at (stops hit) n l n s.near
      (chain-to (not_before i) (stops hit) n l l (λ j b. passed (get_or l j 0) b) (rw from at s.chain))
      (ap (stops hit) s.word ∙ hit-yes ws e k i lt q)
      in
      ap (answer_at hit l) stopped ∙ ap (answer hit p) s.word ∙ rw (hit-yes ws e k i lt q)
    where
      passed : (w : ℕ) → not_before i w ≡ false → stops (hits ws e k) w ≡ false
      passed zero b = clash refl b
      passed (suc j) b =
          caseb (hits ws e k j)
          (λ y. let (h, r) = hit-is ws e k j y in
          absurd (let z : j ≡ i = R.distinct j i h lt (r ∙ sym q) in omega (arith, (earlier i (suc j) b).1)))
          (λ m. m)

  pub search-misses : ((i : ℕ) → i < e → key_at ws i ≡ k → ⊥) → searched ws e l k ≡ Absent (reached is_empty l (home_of n k))
  unfolding searched
  search-misses none =
      let miss : (i : ℕ) → hit i ≡ false = λ i. caseb (hit i) (λ y. let (h, q) = hit-is ws e k i y in absurd (none i h q)) (λ m. m) in
      let p = reached is_empty l (home_of n k) in
      let empty : get_or l p 0 ≡ 0 = reached-empty l (home_of n k) (omega (arith, R.room, H.count)) home-in in
      ap (answer_at hit l) (climb-cong (stops hit) is_empty (stops-none hit miss) n l n (home_of n k)) ∙ ap (answer hit p) empty

  pub search-right : Finds ws e l k (searched ws e l k)
  search-right =
      ⊎_elim
      (λ (i, lt, y). let (h, q) = hit-is ws e k i y in rw (search-finds i lt q) (lt, q))
      (λ none. let free : (i : ℕ) → i < e → key_at ws i ≡ k → ⊥ = λ i lt q. clash (hit-yes ws e k i lt q) (none i lt) in
      rw (search-misses free) (free, climb-lt is_empty n l n (home_of n k) home-in, refl))
      (some-hit hit e)

-- ---- on any words: an entry that is found is there, and a place where none was found is in the index
answered : (hit : ℕ → Bool) (e n p : ℕ) → ((i : ℕ) → hit i ≡ true → i < e) → p < n → (w : ℕ) → Stands e n (answer hit p w)
answered hit e n p in_e h zero = h
answered hit e n p in_e h (suc i) = caseb (hit i) (λ y. rw y (in_e i y)) (λ m. rw m tt)

pub search-stands : (ws : List ℕ) (e : ℕ) (l : List ℕ) (k : Words) → 0 < length l → Stands e (length l) (searched ws e l k)
unfolding searched
search-stands ws e l k h =
    let n = length l in
    let hit = hits ws e k in
    answered hit e n _ (λ i y. (hit-is ws e k i y).0) (climb-lt (stops hit) n l n (home_of n k) (home-lt n k h)) (get_or l (reached (stops hit) l (home_of n k)) 0)

-- ---- every entry is found by its key: no two have one key, and on a right index that is so
pub found-distinct : (ws : List ℕ) (e : ℕ) (l : List ℕ) → AllFound ws e l → Distinct ws e
found-distinct ws e l own i j hi hj q = let p : At i ≡ At j = sym (own i hi) ∙ ap (searched ws e l) q ∙ own j hj in cc

pub right-found : (ws : List ℕ) (e : ℕ) (l : List ℕ) → Right ws e l → AllFound ws e l
right-found ws e l R i lt = search-finds ws e l (key_at ws i) R i lt refl

pub ruleset found_by_key = (found-distinct, right-found)

-- ---- the ways through `search`: it is at place j, whose word is tested
module _ (ws : List ℕ) (e : ℕ) (l : List ℕ) (k : Words) where
  abbrev pub Climbing : ℕ → ℕ → Type 0
  Climbing i j = Going (stops (hits ws e k)) (length l) l (home_of (length l) k) i j

  -- what is promised of an answer
  abbrev pub Promised : Found → Type 0
  Promised r = (r ≡ searched ws e l k) × (Stands e (length l) r × (Right ws e l → Finds ws e l k r))

  promised : (j : ℕ) {r : Found} → j < length l → climb (stops (hits ws e k)) (length l) l (length l) (home_of (length l) k) ≡ j
      → answer_at (hits ws e k) l j ≡ r → Promised r
  unfolding searched
  promised j b at q =
      subst Promised (ap (answer_at (hits ws e k) l) at ∙ q) (refl, (search-stands ws e l k (omega arith), search-right ws e l k))

  module _ (i j : ℕ) (g : Climbing i j) (b : i ≤ length l) where
    pub search-empty : get_or l j 0 ≡ 0 → Promised (Absent j)
    search-empty z =
        promised j g.inside (going-stop (stops (hits ws e k)) (length l) l (home_of (length l) k) i j g b (ap (stops (hits ws e k)) z))
        (ap (answer (hits ws e k) j) z)

    module _ (z : get_or l j 0 ≡ 0 → ⊥) where
      pub search-hit : hits ws e k (get_or l j 0 - 1) ≡ true → Promised (At (get_or l j 0 - 1))
      search-hit y =
          promised j g.inside
          (going-stop (stops (hits ws e k)) (length l) l (home_of (length l) k) i j g b (stops-word (hits ws e k) (get_or l j 0) z ∙ y))
          (answer-hit (hits ws e k) j (get_or l j 0) z y)

      pub search-turn : hits ws e k (get_or l j 0 - 1) ≡ false → Climbing (i + 1) (next_place (length l) j)
      search-turn m = going-turn (stops (hits ws e k)) (length l) l (home_of (length l) k) i j g (stops-word (hits ws e k) (get_or l j 0) z ∙ m)

  pub search-full : (i j : ℕ) → Climbing i j → i ≡ length l → Promised Full
  search-full i j g q =
      let h = home_of (length l) k in
      let m = going-missed (stops (hits ws e k)) (length l) l h i j (home-lt (length l) k (omega (arith, g.inside))) g q in
      promised j g.inside (going_end (stops (hits ws e k)) (length l) l h i j g q) (answer-full (hits ws e k) j (get_or l j 0) m)
