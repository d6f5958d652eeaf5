-- Each call that reads has one answer: on a sound store the table's, or refusal 15 where the words of its key are no value's; and where the
-- shape is wrong refusal 4. Assumes nothing.
use mathlib.Core.Path.{◌≡◌, sym, ap, ◌∙◌}
use mathlib.Core.Bool.{cond}
use mathlib.Core.Logic.{◌⊎◌, inl, inr}
use Rattle.value.specs.declared.Words.{Words}
use Rattle.value.specs.Encoding.{decodes, Decodes}
use Rattle.model.specs.Table.{get_of, next_of}
use Rattle.model.specs.Length.{length_of}
use Rattle.store.specs.Store.{Store}
use Rattle.store.specs.Shape.{Shaped}
use Rattle.store.specs.Written.{Sound, table_of}
use Rattle.store.proofs.Sound.{sound-shaped}
use Rattle.reads.specs.Reads.{GetAnswers, in_words, NextAnswers, LengthAnswers}
use Rattle.std.specs.Prelude.{ℕ, Result, Ok, Err}
use Rattle.value.specs.declared.refusal.Refusal.{Refusal}
use Rattle.value.specs.declared.refusal.Refusal.TheVariants.{WrongShape, NoValue}
use Rattle.reads.specs.declared.Next.{Next}
use Rattle.reads.specs.declared.Next.TheVariants.{Found, Last, NotFound}

-- answers that are x on a sound store, and y where the shape is wrong
one : {R : Type 0} (s : Store) (P : R → Type 0) (x y : R) → ((r : R) → P r → Sound s → r ≡ x) → ((r : R) → P r → (Shaped s → ⊥) → r ≡ y)
    → (r r' : R) → Sound s ⊎ (Shaped s → ⊥) → P r → P r' → r ≡ r'
one s P x y done refused r r' (inl S) a b = done r a S ∙ sym (done r' b S)
one s P x y done refused r r' (inr h) a b = refused r a h ∙ sym (refused r' b h)

-- what a sound store answers to a get, where its table has this value
abbrev pub got_words : Words → Words → Result Words Refusal
got_words key v = cond (decodes key) (Ok v) (Err NoValue)

module _ (s : Store) where
  shaped : Sound s → Shaped s
  shaped S = sound-shaped s S

  -- ---- get
  pub get-answered : (key : Words) (r : Result Words Refusal) → GetAnswers s key r → Sound s → r ≡ got_words key (get_of (table_of s) key)
  get-answered key (Ok v) a S = rw a.1 (ap Ok (a.2 S))
  get-answered key (Err e) (inl a) S = absurd (a.0 (shaped S))
  get-answered key (Err e) (inr a) S = rw a.1 (ap Err a.2)

  pub get-done : (key : Words) (r : Result Words Refusal) → GetAnswers s key r → Sound s → Decodes key → r ≡ Ok (get_of (table_of s) key)
  get-done key r a S d = rw d at (get-answered key r a S)

  pub get_refused : (key : Words) (r : Result Words Refusal) → GetAnswers s key r → (Shaped s → ⊥) → r ≡ Err WrongShape
  get_refused key (Ok v) a h = absurd (h a.0)
  get_refused key (Err e) (inl a) h = ap Err a.1
  get_refused key (Err e) (inr a) h = absurd (h a.0)

  pub get-unique : (key : Words) (r r' : Result Words Refusal) → Sound s ⊎ (Shaped s → ⊥) → GetAnswers s key r → GetAnswers s key r' → r ≡ r'
  get-unique key = one s (GetAnswers s key) _ (Err WrongShape) (get-answered key) (get_refused key)

  -- ---- next
  next-answered : (key : Words) (r : Result (Next Words) Refusal) → NextAnswers s key r → Sound s → r ≡ cond (decodes key) (Ok (in_words (next_of (table_of s) key))) (Err NoValue)
  next-answered key (Ok (Found k v)) a S = rw a.1 (ap (λ n. Ok (in_words n)) (sym (a.2 S)))
  next-answered key (Ok Last) a S = rw a.1 (ap (λ n. Ok (in_words n)) (sym (a.2 S)))
  next-answered key (Ok NotFound) a S = rw a.1 (ap (λ n. Ok (in_words n)) (sym (a.2 S)))
  next-answered key (Err e) (inl a) S = absurd (a.0 (shaped S))
  next-answered key (Err e) (inr a) S = rw a.1 (ap Err a.2)

  pub next-done : (key : Words) (r : Result (Next Words) Refusal) → NextAnswers s key r → Sound s → Decodes key → r ≡ Ok (in_words (next_of (table_of s) key))
  next-done key r a S d = rw d at (next-answered key r a S)

  pub next-refused : (key : Words) (r : Result (Next Words) Refusal) → NextAnswers s key r → (Shaped s → ⊥) → r ≡ Err WrongShape
  next-refused key (Ok (Found k v)) a h = absurd (h a.0)
  next-refused key (Ok Last) a h = absurd (h a.0)
  next-refused key (Ok NotFound) a h = absurd (h a.0)
  next-refused key (Err e) (inl a) h = ap Err a.1
  next-refused key (Err e) (inr a) h = absurd (h a.0)

  pub next-unique : (key : Words) (r r' : Result (Next Words) Refusal) → Sound s ⊎ (Shaped s → ⊥) → NextAnswers s key r → NextAnswers s key r' → r ≡ r'
  next-unique key = one s (NextAnswers s key) _ (Err WrongShape) (next-answered key) (next-refused key)

  -- ---- length
  pub length-done : (r : Result ℕ Refusal) → LengthAnswers s r → Sound s → r ≡ Ok (length_of (table_of s))
  length-done (Ok n) a S = ap Ok (a.1 S)
  length-done (Err e) a S = absurd (a.0 (shaped S))

  pub length-refused : (r : Result ℕ Refusal) → LengthAnswers s r → (Shaped s → ⊥) → r ≡ Err WrongShape
  length-refused (Ok n) a h = absurd (h a.0)
  length-refused (Err e) a h = ap Err a.1

  pub length-unique : (r r' : Result ℕ Refusal) → Sound s ⊎ (Shaped s → ⊥) → LengthAnswers s r → LengthAnswers s r' → r ≡ r'
  length-unique = one s (LengthAnswers s) (Ok (length_of (table_of s))) (Err WrongShape) length-done length-refused
