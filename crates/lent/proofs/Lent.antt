-- Values written into lent words read back, and words with these values and zeros after them are these lent words. Assumes nothing.
use mathlib.Core.Path.{◌≡◌, refl, sym, ap, ◌∙◌}
use mathlib.Core.List.{List, [], ◌∷◌, ◌++◌}
use Prim.Native.Nat.{ℕ, zero, suc, ◌+◌, ◌-◌, ◌*◌, ◌/◌, ◌≤◌, ◌<◌}
use native.Mathlib.Nat.{le_of_suc-le-suc, not-suc-le-zero}
use native.Mathlib.Omega.{arith}
use lib.Dec.{eqb, ltb}
use lib.ListN.{length, get_or, replicate, length-append, length-replicate, get_or-replicate}
use lib.Seq.{get_or-append-add, ext_get_or}
use borrow.Author.Tests.{ltb-true, ltb-false, eqb-true, eqb-false}
use Rattle.value.specs.declared.Words.{Words}
use Rattle.value.specs.Encoding.{words, decodes, Decodes}
use Rattle.value.specs.Same.{nil}
use Rattle.value.proofs.Cases.{caseb}
use Rattle.lent.specs.Lent.{value_at, spread, lent_words, WordSized, AllDecode, ZeroFrom}

length-spread : (vs : List Words) → length (spread vs) ≡ 2 * length vs
length-spread [] = refl
length-spread (v ∷ vs) = omega (arith, length-spread vs)

-- also where these values are too many for n words
length-any : (n : ℕ) (vs : List Words) → length (lent_words n vs) ≡ 2 * length vs + (n - 2 * length vs)
unfolding lent_words
length-any n vs =
    let m : ℕ = n - 2 * length vs in
    omega (arith, length-append (spread vs) (replicate m 0), length-spread vs, length-replicate {A = ℕ} m 0)

value-next : (a b : ℕ) (ws : List ℕ) (i : ℕ) → value_at (a ∷ b ∷ ws) (suc i) ≡ value_at ws i
value-next a b ws i =
    let p : 2 * suc i ≡ suc (suc (2 * i)) = omega arith in
    let q : 2 * suc i + 1 ≡ suc (suc (2 * i + 1)) = omega arith in
    λ j. words (get_or (a ∷ b ∷ ws) (p j) 0) (get_or (a ∷ b ∷ ws) (q j) 0)

value-spread : (vs : List Words) (ws : List ℕ) (i : ℕ) → i < length vs → value_at (spread vs ++ ws) i ≡ get_or vs i nil
value-spread [] ws i h = absurd (not-suc-le-zero h)
value-spread (v ∷ vs) ws zero h = refl
value-spread (v ∷ vs) ws (suc i) h = value-next v.kind v.payload (spread vs ++ ws) i ∙ value-spread vs ws i (le_of_suc-le-suc h)

pub value_lent : (n : ℕ) (vs : List Words) (i : ℕ) → i < length vs → value_at (lent_words n vs) i ≡ get_or vs i nil
unfolding lent_words
value_lent n vs i h = value-spread vs (replicate (n - 2 * length vs) 0) i h

pub zero-lent : (n : ℕ) (vs : List Words) → ZeroFrom (2 * length vs) (lent_words n vs)
unfolding lent_words
zero-lent n vs i h g =
    let m : ℕ = n - 2 * length vs in
    let p : i ≡ length (spread vs) + (i - 2 * length vs) = omega (arith, length-spread vs) in
    ap (λ (x : ℕ). get_or (spread vs ++ replicate m 0) x 0) p
    ∙ get_or-append-add (spread vs) (replicate m 0) (i - 2 * length vs) 0
    ∙ get_or-replicate m (i - 2 * length vs) 0 0 (omega (arith, length-any n vs))

pub length-lent : (n : ℕ) (vs : List Words) → 2 * length vs ≤ n → length (lent_words n vs) ≡ n
length-lent n vs h = omega (arith, length-any n vs)

-- words are given by their first n values, where zeros are after these
words_are : (n : ℕ) (xs ys : List ℕ) → length xs ≡ length ys → ((i : ℕ) → i < n → value_at xs i ≡ value_at ys i)
    → ZeroFrom (2 * n) xs → ZeroFrom (2 * n) ys → xs ≡ ys
words_are n xs ys l h p q =
    ext_get_or 0 xs ys l
    (λ i g. caseb (ltb i (2 * n))
    (λ t. let b : i < 2 * n = ltb-true i (2 * n) t in
    let v : value_at xs (i / 2) ≡ value_at ys (i / 2) = h (i / 2) (omega arith) in
    caseb (eqb i (2 * (i / 2)))
    (λ e. let r : i ≡ 2 * (i / 2) = eqb-true i (2 * (i / 2)) e in
    ap (λ (x : ℕ). get_or xs x 0) r ∙ ap (λ (w : Words). w.kind) v ∙ ap (λ (x : ℕ). get_or ys x 0) (sym r))
    (λ e. let r : i ≡ 2 * (i / 2) + 1 = omega (arith, eqb-false i (2 * (i / 2)) e) in
    ap (λ (x : ℕ). get_or xs x 0) r ∙ ap (λ (w : Words). w.payload) v ∙ ap (λ (x : ℕ). get_or ys x 0) (sym r)))
    (λ t. let b : 2 * n ≤ i = ltb-false i (2 * n) t in p i b (omega arith) ∙ sym (q i b (omega arith))))

pub lent_is : (ws : List ℕ) (vs : List Words) → 2 * length vs ≤ length ws → ((i : ℕ) → i < length vs → value_at ws i ≡ get_or vs i nil)
    → ZeroFrom (2 * length vs) ws → ws ≡ lent_words (length ws) vs
lent_is ws vs l h z =
    words_are (length vs) ws (lent_words (length ws) vs) (sym (length-lent (length ws) vs l))
    (λ i g. h i g ∙ sym (value_lent (length ws) vs i g)) z (zero-lent (length ws) vs)

-- unused words decode: they are Nil's
pub all-decode : (n : ℕ) (ws : List ℕ) → ((i : ℕ) → i < n → Decodes (value_at ws i)) → ZeroFrom (2 * n) ws → AllDecode ws
unfolding decodes
all-decode n ws h z i l =
    caseb (ltb i n)
    (λ t. h i (ltb-true i n t))
    (λ t. let b : n ≤ i = ltb-false i n t in
    let k : get_or ws (2 * i) 0 ≡ 0 = z (2 * i) (omega arith) (omega arith) in
    let p : get_or ws (2 * i + 1) 0 ≡ 0 = z (2 * i + 1) (omega arith) (omega arith) in
    rw (k, p))

-- zeros have 0 everywhere, past their end too
pub zero-at : (n i : ℕ) → get_or {A = ℕ} (replicate n 0) i 0 ≡ 0
zero-at zero i = refl
zero-at (suc n) zero = refl
zero-at (suc n) (suc i) = zero-at n i

pub zeros-sized : (n : ℕ) → WordSized (replicate n 0)
zeros-sized n i = rw (zero-at n i) (omega arith)
