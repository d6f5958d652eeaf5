-- Entries put in and taken out: where each stands in the index of the first e entries, that taking the last out undoes putting it in, and
-- that an index with e words in use is that index exactly when every entry is in its seat. Over homes as a function of position, and any
-- words. Assumes nothing.
use Rattle.std.proofs.Common.{◌≡◌, ℕ, zero, suc, ◌+◌, ◌<◌, ◌≤◌, true, false, List, length, get_or, set, replicate, sym, refl, ap, ◌∙◌, subst, ⊎_elim, zero-le, le_of_suc-le-suc, not-suc-le-zero, eq-or-lt_of_le, add-one, arith, length-set, get_or-set_other, get_or-set_same, set-set, ltb-false, le-ltb, lt-ltb}
use native.Mathlib.Decide.{ℕ_discrete}
use lib.ListN.{length-replicate}
use lib.Seq.{set-get_or}
use Rattle.value.proofs.Cases.{clash}
use Rattle.lent.proofs.Lent.{zero-at}
use Rattle.index.specs.Index.{climb, reached, is_empty, placed, index_of, not_before, seat_of, used}
use Rattle.index.proofs.Used.{not-empty, is-empty, used-zeros, used-set, used-clear, none-used, some-empty, inside}
use Rattle.index.proofs.Climb.{Chain, chain-to, climb-at, Climbed, climbed, climb-stops, climb-lt, climbing}

-- ---- the tests of a word
-- a word of an entry before entry i
pub before : (i w : ℕ) → (w ≡ 0 → ⊥) → w ≤ i → not_before i w ≡ false
before i zero h g = absurd (h refl)
before i (suc w) h g = le-ltb i (suc w) g

pub later : (i w : ℕ) → i < w → not_before i w ≡ true
later i zero g = refl
later i (suc w) g = lt-ltb i (suc w) g

pub earlier : (i w : ℕ) → not_before i w ≡ false → (w ≡ 0 → ⊥) × (w ≤ i)
earlier i zero e = (λ p. absurd (let z : ◌≡◌ {A = ℕ} 0 1 = cc in omega arith), zero-le)
earlier i (suc w) e = (λ p. omega arith, ltb-false i (suc w) e)

pub ruleset seating = (climbing, before, later)

-- a list with another word at place k: a word that is not there is as it was
untouched : (l : List ℕ) (k v p : ℕ) → (get_or l p 0 ≡ get_or l k 0 → ⊥) → get_or (set l k v) p 0 ≡ get_or l p 0
untouched l k v p h = get_or-set_other l k p v 0 (λ e. h (ap (λ (x : ℕ). get_or l x 0) e))

-- where a word is empty, a climb to empty words ends at one
pub reached-empty : (l : List ℕ) (h : ℕ) → used l < length l → h < length l → get_or l (reached is_empty l h) 0 ≡ 0
reached-empty l h u b =
    let (k, hk, z) = some-empty l u in
    is-empty (get_or l (reached is_empty l h) 0) (climb-stops is_empty (length l) l h k b hk (ap is_empty z))

-- ---- entry i, whose home is h, is in its seat at k: from h up there are words of earlier entries only, and then its own
pub record Seated (n : ℕ) (l : List ℕ) (h i k : ℕ) : Type 0 where
  pub far : ℕ
  pub near : far ≤ n
  pub chain : Chain (not_before i) n l far h k
  pub word : get_or l k 0 ≡ suc i

seat-is : (n : ℕ) (l : List ℕ) (h i k : ℕ) → length l ≡ n → Seated n l h i k → seat_of l h i ≡ k
unfolding seat_of
seat-is n l h i k e s = rw e (climb-at (not_before i) n l n s.near s.chain (rw s.word (later i (suc i) (omega arith))))

in-seat : (n : ℕ) (l : List ℕ) (h i : ℕ) → length l ≡ n → get_or l (seat_of l h i) 0 ≡ suc i → Seated n l h i (seat_of l h i)
unfolding seat_of
in-seat n l h i q e =
    let c = climbed (not_before i) (length l) l (length l) h in
    rw (← q) (record { far = c.far; near = c.near; chain = c.chain; word = e })

-- a word that is none of the first i + 1 entries' changed: entry i is still in its seat
seated-kept : (n : ℕ) (l : List ℕ) (h i k p v : ℕ) → not_before (suc i) (get_or l p 0) ≡ true → Seated n l h i k → Seated n (set l p v) h i k
seated-kept n l h i k p v o s =
    record {
      far = s.far;
      near = s.near;
      chain = chain-to (not_before i) (not_before i) n l (set l p v) passed s.chain;
      word = untouched l p v k (other (get_or l k 0) (λ z. omega (arith, s.word)) (omega (arith, s.word))) ∙ s.word;
    }
  where
    other : (w : ℕ) → (w ≡ 0 → ⊥) → w ≤ suc i → w ≡ get_or l p 0 → ⊥
    other w z g q = clash (ap (not_before (suc i)) q ∙ o) (before (suc i) w z g)

    passed : (q : ℕ) → not_before i (get_or l q 0) ≡ false → not_before i (get_or (set l p v) q 0) ≡ false
    passed q e = let (z, g) = earlier i (get_or l q 0) e in rw (untouched l p v q (other (get_or l q 0) z (omega arith))) e

-- ---- the index of the first e entries
pub record Held (n : ℕ) (home : ℕ → ℕ) (e : ℕ) (l : List ℕ) : Type 0 where
  pub long : length l ≡ n
  pub count : used l ≡ e
  pub small : (k : ℕ) → get_or l k 0 ≤ e
  pub held : (i : ℕ) → i < e → (k : ℕ) × Seated n l (home i) i k

-- entry e goes to the first empty word at its home or after it, and that is its seat
module _ (n : ℕ) (home : ℕ → ℕ) (e : ℕ) (l : List ℕ) (H : Held n home e l) (lt : e < n) (hl : home e < n) where
  abbrev at : ℕ
  at = reached is_empty l (home e)

  abbrev put : List ℕ
  put = set l at (suc e)

  at-empty : get_or l at 0 ≡ 0
  at-empty = reached-empty l (home e) (omega (arith, H.long, H.count)) (rw H.long hl)

  at-inside : at < length l
  at-inside = climb-lt is_empty (length l) l (length l) (home e) (rw H.long hl)

  way : Climbed is_empty (length l) l (length l) (home e) at
  way = climbed is_empty (length l) l (length l) (home e)

  at-chain : Chain (not_before e) n l way.far (home e) at
  at-chain =
      subst (λ (m : ℕ). Chain (not_before e) m l way.far (home e) at) H.long
      (chain-to is_empty (not_before e) (length l) l l (λ p q. before e (get_or l p 0) (λ z. clash (ap is_empty z) q) (H.small p)) way.chain)

  at-near : way.far ≤ n
  at-near = omega (arith, way.near, H.long)

  -- no word is a later entry's, so the first place that no earlier entry has is the first empty one
  seat-free : seat_of l (home e) e ≡ at
  unfolding seat_of
  seat-free = ap (λ (m : ℕ). climb (not_before e) m l m (home e)) H.long ∙ climb-at (not_before e) n l n at-near at-chain (ap (not_before e) at-empty)

  put-seated : Seated n put (home e) e at
  put-seated =
      record {
        far = way.far;
        near = at-near;
        chain =
            chain-to (not_before e) (not_before e) n l put
            (λ p q. rw (untouched l at (suc e) p (λ y. clash (ap (not_before e) (y ∙ at-empty)) q)) q)
            at-chain;
        word = get_or-set_same l at (suc e) 0 at-inside;
      }

  placed-is : placed l (home e) e ≡ put
  unfolding placed
  placed-is = rw (add-one e)

  put-held : Held n home (suc e) put
  put-held =
      record {
        long = length-set l at (suc e) ∙ H.long;
        count = used-set l at e at-inside at-empty ∙ ap suc H.count;
        small = λ k. small_put k (ℕ_discrete k at);
        held = λ i h. ⊎_elim
            (λ q. rw q (at, put-seated))
            (λ q. let (k, s) = H.held i q in (k, seated-kept n l (home i) i k at (suc e) (ap (not_before (suc i)) at-empty) s))
            (eq-or-lt_of_le (le_of_suc-le-suc h));
      }
    where
      small_put : (k : ℕ) → Dec (k ≡ reached is_empty l (home e)) → get_or (set l (reached is_empty l (home e)) (suc e)) k 0 ≤ suc e
      small_put k (yes q) = rw (q, get_or-set_same l at (suc e) 0 at-inside) (omega arith)
      small_put k (no q) = rw (get_or-set_other l at k (suc e) 0 q) (omega (arith, H.small k))

pub index-held : (n : ℕ) (home : ℕ → ℕ) (e : ℕ) → e ≤ n → ((i : ℕ) → i < e → home i < n) → Held n home e (index_of n home e)
unfolding index_of
index-held n home zero h b =
    record { long = length-replicate n 0; count = used-zeros n; small = λ k. rw (zero-at n k) zero-le; held = λ i l. absurd (not-suc-le-zero l) }
index-held n home (suc e) h b =
    let l = index_of n home e in
    let H = index-held n home e (omega arith) (λ i q. b i (omega arith)) in
    rw (placed-is n home e l H h (b e (omega arith))) (put-held n home e l H h (b e (omega arith)))

pub length-index : (n : ℕ) (home : ℕ → ℕ) (e : ℕ) → length (index_of n home e) ≡ n
unfolding index_of placed
length-index n home zero = length-replicate n 0
length-index n home (suc e) = length-set (index_of n home e) _ (e + 1) ∙ length-index n home e

-- entry e taken out of the index where it was put in last: the index before it
pub taken_out : (n : ℕ) (home : ℕ → ℕ) (e : ℕ) → e < n → ((i : ℕ) → i < suc e → home i < n)
    → set (index_of n home (suc e)) (seat_of (index_of n home (suc e)) (home e) e) 0 ≡ index_of n home e
unfolding index_of
taken_out n home e h b =
    let l = index_of n home e in
    let H = index-held n home e (omega arith) (λ i q. b i (omega arith)) in
    let hl : home e < n = b e (omega arith) in
    let k = at n home e l H h hl in
    let back : seat_of (set l k (suc e)) (home e) e ≡ k =
    seat-is n (set l k (suc e)) (home e) e k (length-set l k (suc e) ∙ H.long) (put-seated n home e l H h hl)
    in
    rw (placed-is n home e l H h hl, back, set-set) (ap (set l k) (sym (at-empty n home e l H h hl)) ∙ set-get_or l k 0)

-- entry e put in at its seat
pub put_in : (n : ℕ) (home : ℕ → ℕ) (e : ℕ) → e < n → ((i : ℕ) → i < suc e → home i < n)
    → set (index_of n home e) (seat_of (index_of n home e) (home e) e) (suc e) ≡ index_of n home (suc e)
unfolding index_of
put_in n home e h b =
    let l = index_of n home e in
    let H = index-held n home e (omega arith) (λ i q. b i (omega arith)) in
    let hl : home e < n = b e (omega arith) in
    ap (λ (k : ℕ). set l k (suc e)) (seat-free n home e l H h hl) ∙ sym (placed-is n home e l H h hl)

-- the index goes by the homes alone
pub index-cong : (n : ℕ) (g h : ℕ → ℕ) (e : ℕ) → ((i : ℕ) → i < e → g i ≡ h i) → index_of n g e ≡ index_of n h e
unfolding index_of
index-cong n g h zero q = refl
index-cong n g h (suc e) q = rw (q e (omega arith), index-cong n g h e (λ i l. q i (omega arith)))

-- ---- the index exactly when e words are in use and every entry is in its seat
pub all-seated : (n : ℕ) (home : ℕ → ℕ) (e : ℕ) → e ≤ n → ((i : ℕ) → i < e → home i < n)
    → (i : ℕ) → i < e → get_or (index_of n home e) (seat_of (index_of n home e) (home i) i) 0 ≡ suc i
all-seated n home e h b i lt =
    let l = index_of n home e in
    let H = index-held n home e h b in
    let (k, s) = H.held i lt in
    ap (λ (x : ℕ). get_or l x 0) (seat-is n l (home i) i k H.long s) ∙ s.word

-- entry e, in its seat at k, taken out and put in again
put-again : (n : ℕ) (l : List ℕ) (h e k : ℕ) → length l ≡ n → Seated n l h e k → placed (set l k 0) h e ≡ l
unfolding placed
put-again n l h e k long s =
    ap (λ (x : ℕ). set (set l k 0) x (e + 1)) same_place
    ∙ set-set l k 0 (e + 1)
    ∙ ap (set l k) (add-one e ∙ sym s.word)
    ∙ set-get_or l k 0
  where
    passed : (p : ℕ) → not_before e (get_or l p 0) ≡ false → is_empty (get_or (set l k 0) p 0) ≡ false
    passed p q =
        rw (untouched l k 0 p (λ y. clash (ap (not_before e) (y ∙ s.word) ∙ later e (suc e) (omega arith)) q))
        (not-empty (get_or l p 0) (earlier e (get_or l p 0) q).0)

    same_place : reached is_empty (set l k 0) h ≡ k
    same_place =
        rw (length-set l k 0 ∙ long)
        (climb-at is_empty n (set l k 0) n s.near
        (chain-to (not_before e) is_empty n l (set l k 0) passed s.chain)
        (ap is_empty (get_or-set_same l k 0 0 (inside l k e s.word))))

pub seated-all : (n : ℕ) (home : ℕ → ℕ) (e : ℕ) (l : List ℕ) → length l ≡ n → used l ≡ e
    → ((i : ℕ) → i < e → get_or l (seat_of l (home i) i) 0 ≡ suc i) → l ≡ index_of n home e
unfolding index_of
seated-all n home zero l long count all = none-used l count ∙ ap (λ (m : ℕ). replicate m 0) long
seated-all n home (suc e) l long count all =
    let k = seat_of l (home e) e in
    let out = set l k 0 in
    let word : get_or l k 0 ≡ suc e = all e (omega arith) in
    let out-long : length out ≡ n = length-set l k 0 ∙ long in
    let out-all : (i : ℕ) → i < e → get_or out (seat_of out (home i) i) 0 ≡ suc i = λ i lt.
    let later-word = ap (not_before (suc i)) word ∙ later (suc i) (suc e) (omega arith) in
    let s = seated-kept n l (home i) i (seat_of l (home i) i) k 0 later-word (in-seat n l (home i) i long (all i (omega arith))) in
    ap (λ (x : ℕ). get_or out x 0) (seat-is n out (home i) i (seat_of l (home i) i) out-long s) ∙ s.word
    in
    sym (put-again n l (home e) e k long (in-seat n l (home e) e long word))
    ∙ ap (λ (x : List ℕ). placed x (home e) e) (seated-all n home e out out-long (omega (arith, used-clear l k e word, count)) out-all)
