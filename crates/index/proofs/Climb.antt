-- Climbing: going up from place to place of a ring, to the first word that a test stops at. Over any test and any words. Assumes nothing.
use Rattle.std.proofs.Common.{◌≡◌, ℕ, zero, suc, ◌+◌, ◌-◌, ◌<◌, ◌≤◌, Bool, true, false, ltb, ◌⊎◌, List, get_or, refl, ap, ◌∙◌, inl, inr, ⊎_elim, suc-le-suc, zero-le, add-one, le_of_suc-le-suc, not-suc-le-zero, arith, ltb-false, ltb-true}
use Rattle.value.proofs.Cases.{caseb, clash}
use Rattle.index.specs.Home.{next_place}
use Rattle.index.specs.Index.{climb}
use Rattle.index.proofs.Home.{next_up, next-wrap, next-lt}

-- ---- the ring: every place is fewer than n steps from every other
steps : ℕ → ℕ → ℕ → ℕ
steps n zero j = j
steps n (suc d) j = steps n d (next_place n j)

steps_up : (n d j : ℕ) → j + d < n → steps n d j ≡ j + d
unfolding steps
steps_up n zero j h = omega arith
steps_up n (suc d) j h =
    let e : next_place n j ≡ j + 1 = next_up n j (omega arith) in
    rw e (steps_up n d (j + 1) (omega arith) ∙ omega arith)

-- from j past the end to k, by way of the a places above j
round : (n a j k : ℕ) → suc (j + a) ≡ n → k < n → (d : ℕ) × (d ≤ suc (a + k)) × (steps n d j ≡ k)
unfolding steps
round n zero j k e h =
    let z : next_place n j ≡ 0 = next-wrap n j (omega arith) in
    (suc k, omega arith, rw z (steps_up n k 0 (omega arith) ∙ omega arith))
round n (suc a) j k e h =
    let u : next_place n j ≡ j + 1 = next_up n j (omega arith) in
    let (d, l, p) = round n a (j + 1) k (omega arith) h in
    (suc d, omega arith, ap (steps n d) u ∙ p)

reach : (n j k : ℕ) → j < n → k < n → (d : ℕ) × (d < n) × (steps n d j ≡ k)
reach n j k hj hk =
    caseb (ltb k j)
    (λ b. let l : k < j = ltb-true k j b in
    let (d, c, p) = round n (n - 1 - j) j k (omega arith) hk in (d, omega arith, p))
    (λ b. let l : j ≤ k = ltb-false k j b in (k - j, omega arith, steps_up n (k - j) j (omega arith) ∙ omega arith))

-- ---- chains: k is d places after j, and the test stops at no place before it
pub data Chain (stop : ℕ → Bool) (n : ℕ) (l : List ℕ) : ℕ → ℕ → ℕ → Type 0 where
  here : {j : ℕ} → Chain stop n l zero j j
  step : {d j k : ℕ} → stop (get_or l j 0) ≡ false → Chain stop n l d (next_place n j) k → Chain stop n l (suc d) j k

-- a chain where one test does not stop is one where another does not, in other words
pub chain-to : (stop stop' : ℕ → Bool) (n : ℕ) (l l' : List ℕ) → ((k : ℕ) → stop (get_or l k 0) ≡ false → stop' (get_or l' k 0) ≡ false)
    → {d j k : ℕ} → Chain stop n l d j k → Chain stop' n l' d j k
chain-to stop stop' n l l' f here = here
chain-to stop stop' n l l' f (step {j = j} e c) = step (f j e) (chain-to stop stop' n l l' f c)

module _ (stop : ℕ → Bool) (n : ℕ) (l : List ℕ) where
  pub chain-lt : {d j k : ℕ} → j < n → Chain stop n l d j k → k < n
  chain-lt h here = h
  chain-lt h (step {j = j} e c) = chain-lt (next-lt n j h) c

  chain_more : {d j k : ℕ} → Chain stop n l d j k → stop (get_or l k 0) ≡ false → Chain stop n l (suc d) j (next_place n k)
  chain_more here e = step e here
  chain_more (step p c) e = step p (chain_more c e)

  missed : {d j k : ℕ} → Chain stop n l d j k → (m : ℕ) → m < d → stop (get_or l (steps n m j) 0) ≡ false
  unfolding steps
  missed here m h = absurd (not-suc-le-zero h)
  missed (step e c) zero h = e
  missed (step e c) (suc m) h = missed c m (le_of_suc-le-suc h)

  -- a chain round the whole ring has been everywhere
  chain-round : {j i : ℕ} → j < n → Chain stop n l n j i → (k : ℕ) → k < n → stop (get_or l k 0) ≡ false
  chain-round {j} h c k g = let (d, b, p) = reach n j k h g in rw p at (missed c d b)

  -- ---- where a climb ends
  climb-on : {d j k : ℕ} (f : ℕ) → Chain stop n l d j k → climb stop n l (d + f) j ≡ climb stop n l f k
  unfolding climb
  climb-on f (here {j}) = let p : 0 + f ≡ f = omega arith in rw p
  climb-on f (step {d} {j} e c) = let p : suc d + f ≡ suc (d + f) = omega arith in rw (p, e) (climb-on f c)

  climb-here : (f k : ℕ) → stop (get_or l k 0) ≡ true → climb stop n l f k ≡ k
  unfolding climb
  climb-here zero k e = refl
  climb-here (suc f) k e = rw e

  pub climb-at : {d j k : ℕ} (f : ℕ) → d ≤ f → Chain stop n l d j k → stop (get_or l k 0) ≡ true → climb stop n l f j ≡ k
  climb-at {d} {j} {k} f h c e = let p : f ≡ d + (f - d) = omega arith in ap (λ (x : ℕ). climb stop n l x j) p ∙ climb-on (f - d) c ∙ climb-here (f - d) k e

  -- a climb that stopped nowhere ends where the chain does
  climb-past : {d j k : ℕ} → Chain stop n l d j k → climb stop n l d j ≡ k
  unfolding climb
  climb-past {d} {j} c = let p : d ≡ d + 0 = omega arith in ap (λ (x : ℕ). climb stop n l x j) p ∙ climb-on 0 c

  -- the way that a climb took, f places at most, from j to k
  pub record Climbed (f j k : ℕ) : Type 0 where
    pub far : ℕ
    pub near : far ≤ f
    pub chain : Chain stop n l far j k
    pub end : (stop (get_or l k 0) ≡ true) ⊎ (far ≡ f)

  pub climbed : (f j : ℕ) → Climbed f j (climb stop n l f j)
  unfolding climb
  climbed zero j = record { far = zero; near = zero-le; chain = here; end = inr refl }
  climbed (suc f) j =
      let c = climbed f (next_place n j) in
      caseb (stop (get_or l j 0))
      (λ e. rw e (record { far = zero; near = zero-le; chain = here; end = inl e }))
      (λ e. rw e (record { far = suc c.far; near = suc-le-suc c.near; chain = step e c.chain; end = ⊎_elim inl (λ p. inr (ap suc p)) c.end }))

  -- it ends in the ring
  pub climb-lt : (f j : ℕ) → j < n → climb stop n l f j < n
  climb-lt f j h = chain-lt h (climbed f j).chain

  -- where some place stops it, a climb round the whole ring stops
  pub climb-stops : (j k : ℕ) → j < n → k < n → stop (get_or l k 0) ≡ true → stop (get_or l (climb stop n l n j) 0) ≡ true
  climb-stops j k hj hk e =
      let c = climbed n j in
      ⊎_elim (λ p. p) (λ p. clash e (chain-round hj (rw p at c.chain) k hk)) c.end

  -- ---- a climb on its way, as a loop makes it: from h it came to j by i places, none of which stopped it
  pub record Going (h i j : ℕ) : Type 0 where
    pub inside : j < n
    pub chain : Chain stop n l i h j

  pub going_start : (h : ℕ) → h < n → Going h 0 h
  going_start h b = record { inside = b; chain = here }

  pub going-turn : (h i j : ℕ) → Going h i j → stop (get_or l j 0) ≡ false → Going h (i + 1) (next_place n j)
  going-turn h i j g e = record { inside = next-lt n j g.inside; chain = rw add-one (chain_more g.chain e) }

  pub going-stop : (h i j : ℕ) → Going h i j → i ≤ n → stop (get_or l j 0) ≡ true → climb stop n l n h ≡ j
  going-stop h i j g b e = climb-at n b g.chain e

  -- all the way round without a stop
  pub going_end : (h i j : ℕ) → Going h i j → i ≡ n → climb stop n l n h ≡ j
  going_end h i j g e = climb-past (rw e at g.chain)

  pub going-missed : (h i j : ℕ) → h < n → Going h i j → i ≡ n → stop (get_or l j 0) ≡ false
  going-missed h i j b g e = chain-round b (rw e at g.chain) j g.inside

pub ruleset climbing = (going_start, going-turn, going-stop, going_end)
