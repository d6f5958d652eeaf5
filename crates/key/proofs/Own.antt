-- A canonical key is its own canonical key, it decodes where the key it came from does, and only Nil and the NaNs have none (01, 'Values and keys').
-- Assumes nothing.
use mathlib.Core.Path.{◌≡◌, refl, sym, ap}
use mathlib.Core.Bool.{Bool, true, false}
use mathlib.Core.Logic.{◌⊎◌, inl, inr}
use Prim.Native.Nat.{ℕ, ◌-◌, ◌%◌, ◌^◌}
use borrow.Author.Tests.{eqb-true, eq-eqb}
use lib.Dec.{eqb}
use lib.Ieee.{binary64, of_bits, nan_bits}
use Rattle.value.specs.declared.Words.{Words}
use Rattle.value.specs.Encoding.{words, decodes}
use Rattle.value.proofs.Cases.{caseb, never}
use Rattle.key.specs.Canonical.{integer, number, largest, whole_of, key_of, number_key, canonical_key}
use Rattle.std.specs.Prelude.{Option, Some, None, Result, Ok, Err}
use Rattle.value.specs.declared.refusal.Refusal.{Refusal}
use Rattle.value.specs.declared.refusal.Refusal.TheVariants.{KeyIsNil, KeyIsNan}

-- the ways that a key goes
abbrev Ways : Words → Result Words Refusal → Type 0
Ways w c =
    ((w.kind ≡ 0) × (c ≡ Err KeyIsNil))
    ⊎ (((w.kind ≡ 3) × (nan_bits binary64 w.payload ≡ true) × (c ≡ Err KeyIsNan))
    ⊎ (((n : ℕ) × (c ≡ Ok (integer n)))
    ⊎ (c ≡ Ok w)))

pub canonical-integer : (n : ℕ) → canonical_key (integer n) ≡ Ok (integer n)
unfolding canonical_key
canonical-integer n = refl

-- a Number that is no NaN becomes an Integer or stays
of-whole : (b : ℕ) (x : Option (Bool × ℕ)) → ((n : ℕ) × (key_of b x ≡ integer n)) ⊎ (key_of b x ≡ number b)
of-whole b (Some (true, n)) = inl ((2 ^ 64 - n) % 2 ^ 64, refl)
of-whole b (Some (false, n)) = caseb (eqb n (2 ^ 63)) (λ e. inl (largest, rw e)) (λ e. inl (n, rw e))
of-whole b None = inr refl

ways : (w : Words) → Ways w (canonical_key w)
unfolding canonical_key number_key
ways w =
    caseb (eqb w.kind 0) (λ e. inl (eqb-true _ _ e, rw e)) (λ e.
    caseb (eqb w.kind 3) (λ f.
    caseb (nan_bits binary64 w.payload) (λ g. inr (inl (eqb-true _ _ f, g, rw (e, f, g)))) (λ g.
    elim (of-whole w.payload (whole_of (of_bits binary64 w.payload))) [
      | inl h ↦ inr (inr (inl (h.0, rw (e, f, g, h.1))))
      | inr h ↦ inr (inr (inr (rw (e, f, g, h) (ap (λ (k : ℕ). Ok (words k w.payload)) (sym (eqb-true w.kind 3 f))))))
    ]))
    (λ f. inr (inr (inr (rw (e, f))))))

-- a call goes by the canonical form, or by the refusal
pub by_key : {P : Type 0} (w : Words) → ((k : Words) → canonical_key w ≡ Ok k → P) → ((e : Refusal) → canonical_key w ≡ Err e → P) → P
by_key w f g = go (canonical_key w) f g
  where
    go : {P : Type 0} (c : Result Words Refusal) → ((k : Words) → c ≡ Ok k → P) → ((e : Refusal) → c ≡ Err e → P) → P
    go (Ok k) f g = f k refl
    go (Err e) f g = g e refl

-- a key that has a canonical form goes by one of two ways
pub key-ways : (w k : Words) → canonical_key w ≡ Ok k → ((n : ℕ) × (k ≡ integer n)) ⊎ ((k ≡ w) × (canonical_key w ≡ Ok w))
key-ways w k e = elim (ways w) [
  | inl a ↦ never (cc)
  | inr (inl a) ↦ never (cc)
  | inr (inr (inl a)) ↦ inl (a.0, cc)
  | inr (inr (inr a)) ↦ inr (cc, a)
]

pub canonical-own : (w k : Words) → canonical_key w ≡ Ok k → canonical_key k ≡ Ok k
canonical-own w k e = elim (key-ways w k e) [ inl a ↦ rw a.1 (canonical-integer a.0) | inr a ↦ rw a.0 a.1 ]

pub integer-decodes : (n : ℕ) → decodes (integer n) ≡ true
unfolding decodes
integer-decodes n = refl

pub canonical-decodes : (w k : Words) → decodes w ≡ true → canonical_key w ≡ Ok k → decodes k ≡ true
canonical-decodes w k d e = elim (key-ways w k e) [ inl a ↦ rw a.1 (integer-decodes a.0) | inr a ↦ rw a.0 d ]

pub no_key : (w : Words) (e : Refusal) → canonical_key w ≡ Err e → ((w.kind ≡ 0) × (e ≡ KeyIsNil)) ⊎ ((w.kind ≡ 3) × (nan_bits binary64 w.payload ≡ true) × (e ≡ KeyIsNan))
no_key w n e = elim (ways w) [
  | inl a ↦ inl (a.0, cc)
  | inr (inl a) ↦ inr (a.0, a.1, cc)
  | inr (inr (inl a)) ↦ never (cc)
  | inr (inr (inr a)) ↦ never (cc)
]

pub nil-no-key : (w : Words) → w.kind ≡ 0 → canonical_key w ≡ Err KeyIsNil
unfolding canonical_key
nil-no-key w h = rw (eq-eqb w.kind 0 h)

pub nan-no-key : (w : Words) → w.kind ≡ 3 → nan_bits binary64 w.payload ≡ true → canonical_key w ≡ Err KeyIsNan
unfolding canonical_key number_key
nan-no-key w h n = rw (h, n)
