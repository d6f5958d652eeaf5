-- The round trips of encode and decode (01, 'Values and keys'): a value that was stored reads back as what it stands for, and words
-- that were read are written back bit for bit, a NaN's too. What was read is of the program's types. Assumes nothing.
use mathlib.Core.Path.{◌≡◌, refl, sym, ap, ◌∙◌, subst}
use mathlib.Core.Bool.{Bool, true, false, not, cond}
use Rattle.std.specs.Prelude.{Result, Ok, Err, is_ok}
use mathlib.Core.Logic.{◌⊎◌, inl, inr}
use Prim.Native.Nat.{ℕ, ◌<◌, ◌^◌}
use borrow.Author.Tests.{eqb-true}
use lib.Dec.{T, eqb}
use lib.Ieee.{binary64, of_bits, nan_bits, is_nan}
use lib.Ieee.Bits.{to_bits-of_bits, of_bits-fits, nan_bits_is}
use mir.Syntax.{w64}
use mir.Facts.{to_z-of_z, of_z-to_z, sfits_to_z}
use Rattle.value.specs.declared.Function.TheVariants.{Closure, Callback}
use Rattle.value.specs.declared.Value.{Value}
use Rattle.value.specs.declared.Value.TheVariants.{Nil, Boolean, Integer, Number, NaN, String, Table, Function as FunctionValue, Thread, UserData}
use Rattle.value.specs.declared.Words.{Words}
use Rattle.value.specs.declared.refusal.Refusal.{Refusal}
use Rattle.value.specs.declared.refusal.Refusal.TheVariants.{NoValue}
use Rattle.value.specs.Encoding.{words, kind_of, payload_of, encoded, number_of, decoded_as, decoded, or_nil, value_of, decodes, Typed, settled}
use Rattle.value.specs.Same.{same, is_nil}
use Rattle.value.proofs.Cases.{caseb, clash, never}

-- a value stored and read
pub stored-read : (v : Value) → Typed v → decoded (encoded v) ≡ Ok (settled v)
stored-read Nil t = refl
stored-read (Boolean true) t = refl
stored-read (Boolean false) t = refl
stored-read (Integer n) t = ap (λ z. Ok (Integer z)) (to_z-of_z t)
stored-read (Number x) t = refl
stored-read (NaN p) t = refl
stored-read (String h) t = refl
stored-read (Table h) t = refl
stored-read (FunctionValue (Closure h)) t = refl
stored-read (FunctionValue (Callback h)) t = refl
stored-read (Thread h) t = refl
stored-read (UserData h) t = refl

-- ---- two words read and stored
step : (b : Bool) (a r : Result Value Refusal) (v : Value) → cond b a r ≡ Ok v → ((b ≡ true) × (a ≡ Ok v)) ⊎ ((b ≡ false) × (r ≡ Ok v))
step true a r v e = inl (refl, e)
step false a r v e = inr (refl, e)

abbrev Back : ℕ → ℕ → Value → Type 0
Back k p v = (kind_of v ≡ k) × (payload_of v ≡ p) × Typed v

-- an answer that is one value
one : (k p : ℕ) (u v : Value) → Back k p u → (let read : Value → Result Value Refusal = Ok in read u ≡ read v) → Back k p v
one k p u v h e = let q : u ≡ v = cc in subst (Back k p) q h

none : {X : Type 0} (v : Value) → (Err NoValue) ≡ Ok v → X
none v e = never (cc)

number-back : (p : ℕ) → p < 2 ^ 64 → Back 3 p (number_of p)
number-back p l = go (nan_bits binary64 p) (nan_bits_is binary64 p)
  where
    go : (b : Bool) → b ≡ is_nan (of_bits binary64 p) → Back 3 p (cond b (NaN p) (Number (of_bits binary64 p)))
    go true e = (refl, refl, tt)
    go false e = (refl, to_bits-of_bits binary64 p l (subst (λ (b : Bool). T (not b)) e tt), of_bits-fits binary64 p)

nil-back : (k p : ℕ) (v : Value) → k ≡ 0 → cond (eqb p 0) (Ok Nil) (Err NoValue) ≡ Ok v → Back k p v
nil-back k p v h e = elim (step (eqb p 0) (Ok Nil) (Err NoValue) v e) [ inl a ↦ one k p Nil v (sym h, sym (eqb-true p 0 a.0), tt) a.1 | inr a ↦ none v a.1 ]

boolean-back : (k p : ℕ) (v : Value) → k ≡ 1 → cond (eqb p 0) (Ok (Boolean false)) (cond (eqb p 1) (Ok (Boolean true)) (Err NoValue)) ≡ Ok v → Back k p v
boolean-back k p v h e = elim (step (eqb p 0) (Ok (Boolean false)) (cond (eqb p 1) (Ok (Boolean true)) (Err NoValue)) v e) [
  | inl a ↦ one k p (Boolean false) v (sym h, sym (eqb-true p 0 a.0), tt) a.1
  | inr a ↦ elim (step (eqb p 1) (Ok (Boolean true)) (Err NoValue) v a.1) [ inl b ↦ one k p (Boolean true) v (sym h, sym (eqb-true p 1 b.0), tt) b.1 | inr b ↦ none v b.1 ]
]

module _ (k p : ℕ) (l : p < 2 ^ 64) (v : Value) where
  -- the words from kind 2 up, each kind with its one value
  chain : (i : ℕ) (u : Value) (r : Result Value Refusal) → Back i p u → (r ≡ Ok v → Back k p v) → cond (eqb k i) (Ok u) r ≡ Ok v → Back k p v
  chain i u r h f e = elim (step (eqb k i) (Ok u) r v e) [ inl a ↦ one k p u v (h.0 ∙ sym (eqb-true k i a.0), h.1, h.2) a.1 | inr a ↦ f a.1 ]

  read_back : decoded_as k p ≡ Ok v → Back k p v
  read_back e =
      elim (step (eqb k 0) _ _ v e) [
        | inl a ↦ nil-back k p v (eqb-true k 0 a.0) a.1
        | inr a ↦
            elim (step (eqb k 1) _ _ v a.1) [
              | inl b ↦ boolean-back k p v (eqb-true k 1 b.0) b.1
              | inr b ↦
                  chain 2 _ _ (refl, of_z-to_z {w = w64} (record { fits = l }), sfits_to_z {w = w64} (record { fits = l }))
                  (chain 3 _ _ (number-back p l)
                  (chain 4 _ _ (refl, refl, tt)
                  (chain 5 _ _ (refl, refl, tt)
                  (chain 6 _ _ (refl, refl, tt)
                  (chain 7 _ _ (refl, refl, tt)
                  (chain 8 _ _ (refl, refl, tt)
                  (chain 9 _ _ (refl, refl, tt) (none v)))))))) b.1
            ]
      ]

pub read-stored : (w : Words) (v : Value) → w.payload < 2 ^ 64 → decoded w ≡ Ok v → encoded v ≡ w
read-stored w v l e = let b : Back w.kind w.payload v = read_back w.kind w.payload l v e in λ i. words (b.0 i) (b.1 i)

-- what decode made is of the program's types, and settles to itself
pub read-typed : (w : Words) (v : Value) → w.payload < 2 ^ 64 → decoded w ≡ Ok v → Typed v
read-typed w v l e = (read_back w.kind w.payload l v e).2

pub read-settled : (w : Words) (v : Value) → w.payload < 2 ^ 64 → decoded w ≡ Ok v → settled v ≡ v
read-settled w v l e = let p : Ok (settled v) ≡ Ok v = sym (stored-read v (read-typed w v l e)) ∙ ap decoded (read-stored w v l e) ∙ e in cc

pub encoded-decodes : (v : Value) → Typed v → decodes (encoded v) ≡ true
unfolding decodes
encoded-decodes v t = ap is_ok (stored-read v t)

-- words that are a value's are read as that value
pub value_read : (w : Words) → decodes w ≡ true → decoded w ≡ Ok (value_of w)
unfolding decodes
value_read w d = go (decoded w) d
  where
    go : (r : Result Value Refusal) → is_ok r ≡ true → r ≡ Ok (or_nil r)
    go (Ok v) e = refl
    go (Err r) e = clash e refl

-- a stored value is Nil exactly when its kind word is 0
pub nil-kind : (w : Words) → decodes w ≡ true → is_nil w ≡ eqb w.kind 0
unfolding decodes same
nil-kind w d =
    caseb (eqb w.kind 0)
    (λ k. caseb (eqb w.payload 0) (λ p. rw (k, p)) (λ p. clash d (rw (k, p))))
    (λ k. rw k)
