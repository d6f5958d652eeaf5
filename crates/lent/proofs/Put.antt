-- Values and entries written over in lent words: what is there afterwards, and that values lent, one of them written over or one more
-- written after them, are these values lent. Assumes nothing.
use mathlib.Core.Path.{◌≡◌, refl, sym, ap, ◌∙◌}
use mathlib.Core.List.{List, [], ◌∷◌, ◌++◌, append_assoc}
use mathlib.Core.Logic.{◌⊎◌, inl, inr, ⊎_elim}
use Prim.Native.Nat.{ℕ, zero, suc, ◌+◌, ◌-◌, ◌*◌, ◌≤◌, ◌<◌}
use native.Mathlib.Omega.{arith}
use lib.Dec.{eqb}
use lib.ListN.{length, get_or, set, replicate, length-set, length-append, length-replicate, replicate-append-replicate}
use lib.Seq.{get_or-set_same, get_or-set_other, set-append_seam}
use borrow.Author.Tests.{eqb-true, eqb-false}
use Rattle.value.specs.declared.Words.{Words}
use Rattle.value.specs.Encoding.{words}
use Rattle.value.specs.Same.{nil}
use Rattle.value.proofs.Cases.{caseb}
use Rattle.lent.specs.Lent.{value_at, spread, lent_words, put_value, put_entry}
use Rattle.lent.proofs.Lent.{value_lent, zero-lent, length-lent, lent_is}

-- ---- a value written over
pub length-put : (ws : List ℕ) (i : ℕ) (v : Words) → length (put_value ws i v) ≡ length ws
unfolding put_value
length-put ws i v = length-set (set ws (2 * i) v.kind) (2 * i + 1) v.payload ∙ length-set ws (2 * i) v.kind

pub put-value-at : (ws : List ℕ) (i : ℕ) (v : Words) → 2 * i + 2 ≤ length ws → value_at (put_value ws i v) i ≡ v
unfolding put_value
put-value-at ws i v h =
    let first = set ws (2 * i) v.kind in
    let k = get_or-set_other first (2 * i + 1) (2 * i) v.payload 0 (λ e. omega arith) ∙ get_or-set_same ws (2 * i) v.kind 0 (omega arith) in
    let p = get_or-set_same first (2 * i + 1) v.payload 0 (omega (arith, length-set ws (2 * i) v.kind)) in
    λ j. words (k j) (p j)

put_word : (ws : List ℕ) (i p : ℕ) (v : Words) → (p ≡ 2 * i → ⊥) → (p ≡ 2 * i + 1 → ⊥) → get_or (put_value ws i v) p 0 ≡ get_or ws p 0
unfolding put_value
put_word ws i p v k g = get_or-set_other (set ws (2 * i) v.kind) (2 * i + 1) p v.payload 0 g ∙ get_or-set_other ws (2 * i) p v.kind 0 k

pub put-word-other : (ws : List ℕ) (i p : ℕ) (v : Words) → (p < 2 * i) ⊎ (2 * i + 2 ≤ p) → get_or (put_value ws i v) p 0 ≡ get_or ws p 0
put-word-other ws i p v =
    ⊎_elim (λ h. put_word ws i p v (λ e. omega arith) (λ e. omega arith)) (λ h. put_word ws i p v (λ e. omega arith) (λ e. omega arith))

pub put-value-other : (ws : List ℕ) (i j : ℕ) (v : Words) → (i ≡ j → ⊥) → value_at (put_value ws i v) j ≡ value_at ws j
put-value-other ws i j v h =
    let k = put_word ws i (2 * j) v (λ e. h (omega arith)) (λ e. omega arith) in
    let p = put_word ws i (2 * j + 1) v (λ e. omega arith) (λ e. h (omega arith)) in
    λ n. words (k n) (p n)

-- ---- in words lent to values
pub put-lent : (n : ℕ) (vs : List Words) (i : ℕ) (v : Words) → i < length vs → 2 * length vs ≤ n → put_value (lent_words n vs) i v ≡ lent_words n (set vs i v)
put-lent n vs i v h l =
    let ws = lent_words n vs in
    let wide : length ws ≡ n = length-lent n vs l in
    let long : length (put_value ws i v) ≡ n = length-put ws i v ∙ wide in
    let many : length (set vs i v) ≡ length vs = length-set vs i v in
    lent_is (put_value ws i v) (set vs i v) (omega arith)
    (λ j g. caseb (eqb i j)
    (λ e. let q : i ≡ j = eqb-true i j e in rw (← q) (put-value-at ws i v (omega arith) ∙ sym (get_or-set_same vs i v nil h)))
    (λ e. let q : i ≡ j → ⊥ = eqb-false i j e in
    put-value-other ws i j v q ∙ value_lent n vs j (omega arith) ∙ sym (get_or-set_other vs i j v nil (λ r. q (sym r)))))
    (λ p a b. put-word-other ws i p v (inr (omega arith)) ∙ zero-lent n vs p (omega arith) (omega arith))
    ∙ ap (λ (m : ℕ). lent_words m (set vs i v)) long

-- Nil's words are those of no value
spread-append : (us vs : List Words) → spread (us ++ vs) ≡ spread us ++ spread vs
spread-append [] vs = refl
spread-append (u ∷ us) vs = ap {B = List ℕ} (λ r. u.kind ∷ u.payload ∷ r) (spread-append us vs)

spread-nils : (m : ℕ) → spread (replicate m nil) ≡ replicate (2 * m) 0
spread-nils zero = refl
spread-nils (suc m) = let p : 2 * suc m ≡ suc (suc (2 * m)) = omega arith in rw (p, spread-nils m)

pub pad-lent : (n m : ℕ) (vs : List Words) → 2 * (length vs + m) ≤ n → lent_words n (vs ++ replicate m nil) ≡ lent_words n vs
unfolding lent_words
pad-lent n m vs h =
    let many : length (vs ++ replicate m nil) ≡ length vs + m = omega (arith, length-append vs (replicate m nil), length-replicate m nil) in
    let rest : 2 * m + (n - 2 * (length vs + m)) ≡ n - 2 * length vs = omega arith in
    rw (many, spread-append vs (replicate m nil), spread-nils m, append_assoc, replicate-append-replicate, rest)

pub append-lent : (n : ℕ) (vs : List Words) (v : Words) → 2 * length vs + 2 ≤ n → put_value (lent_words n vs) (length vs) v ≡ lent_words n (vs ++ (v ∷ []))
append-lent n vs v h =
    let many : length (vs ++ (nil ∷ [])) ≡ length vs + 1 = length-append vs (nil ∷ []) in
    ap (λ (ws : List ℕ). put_value ws (length vs) v) (sym (pad-lent n 1 vs (omega arith)))
    ∙ put-lent n (vs ++ (nil ∷ [])) (length vs) v (omega arith) (omega arith)
    ∙ ap (lent_words n) (set-append_seam vs nil [] v)

-- ---- an entry written over
pub length-put-entry : (ws : List ℕ) (i : ℕ) (k v : Words) → length (put_entry ws i k v) ≡ length ws
unfolding put_entry
length-put-entry ws i k v = length-put (put_value ws (2 * i) k) (2 * i + 1) v ∙ length-put ws (2 * i) k

pub put-entry-at : (ws : List ℕ) (i : ℕ) (k v : Words) → 4 * i + 4 ≤ length ws
    → (value_at (put_entry ws i k v) (2 * i) ≡ k) × (value_at (put_entry ws i k v) (2 * i + 1) ≡ v)
unfolding put_entry
put-entry-at ws i k v h =
    let keyed = put_value ws (2 * i) k in (
      put-value-other keyed (2 * i + 1) (2 * i) v (λ e. omega arith) ∙ put-value-at ws (2 * i) k (omega arith),
      put-value-at keyed (2 * i + 1) v (omega (arith, length-put ws (2 * i) k)),
    )

pub put-entry-word : (ws : List ℕ) (i p : ℕ) (k v : Words) → (p < 4 * i) ⊎ (4 * i + 4 ≤ p) → get_or (put_entry ws i k v) p 0 ≡ get_or ws p 0
unfolding put_entry
put-entry-word ws i p k v h =
    put-word-other (put_value ws (2 * i) k) (2 * i + 1) p v (⊎_elim (λ l. inl (omega arith)) (λ g. inr (omega arith)) h)
    ∙ put-word-other ws (2 * i) p k (⊎_elim (λ l. inl (omega arith)) (λ g. inr (omega arith)) h)
