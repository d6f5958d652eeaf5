-- One outcome of each call through the C interface: on a sound store, and where the shape is wrong, its promise leaves no number, no variable of
-- the host and no word open. Assumes nothing.
use mathlib.Core.Path.{◌≡◌, sym, ap, subst, ◌∙◌}
use mathlib.Core.Logic.{◌⊎◌}
use Prim.Native.Nat.{ℕ}
use Rattle.value.specs.declared.Words.{Words}
use Rattle.model.specs.Entries.{Entry}
use Rattle.store.specs.declared.Record.{Record}
use Rattle.store.specs.Store.{Slices, Store, store}
use Rattle.store.specs.Shape.{Shaped}
use Rattle.store.specs.Written.{Sound}
use Rattle.store.proofs.Unique.{fresh-unique as fresh-made}
use Rattle.reads.proofs.Unique.{get-unique as get-answer, next-unique as next-answer, length-unique as length-answer}
use Rattle.writes.proofs.Unique.{set-unique as set-done, reserve-unique as reserve-done}
use Rattle.host.specs.Host.{given, Out, FreshGives, GetGives, SetGives, NextOut, NextGives, LengthGives, ReserveGives}
use Rattle.std.specs.Prelude.{Result, Ok, Err}
use Rattle.value.specs.declared.refusal.Refusal.{Refusal}
use Rattle.reads.specs.declared.Next.{Next}
use Rattle.reads.specs.declared.Next.TheVariants.{Found, Last, NotFound}
use Rattle.value.specs.Refusals.{answer_number}

-- ---- what comes out of one answer is one
out-one : {X : Type 0} (a b : Result X Refusal) (before x y : X) (r t : ℕ) → a ≡ b → Out a before x r → Out b before y t → (r ≡ t) × (x ≡ y)
out-one a b before x y r t e p q = (p.0 ∙ ap answer_number e ∙ sym q.0, p.1 ∙ ap (λ m. given m before) e ∙ sym q.1)

alike : {X : Type 0} {n r t : ℕ} {x y z : X} → (r ≡ n) × (x ≡ z) → (t ≡ n) × (y ≡ z) → (r ≡ t) × (x ≡ y)
alike (a, b) (c, d) = (a ∙ sym c, b ∙ sym d)

next-out : (a : Result (Next Words) Refusal) (before x y : Entry) (r t : ℕ) → NextOut a before x r → NextOut a before y t → (r ≡ t) × (x ≡ y)
next-out (Ok (Found k v)) before x y r t p q = alike p q
next-out (Ok Last) before x y r t p q = alike p q
next-out (Ok NotFound) before x y r t p q = alike p q
next-out (Err e) before x y r t p q = alike p q

-- ---- the calls
-- for any slices
pub fresh-unique : (before a b : Slices) (sizes x y : Record) (r t : ℕ) → FreshGives before a sizes x r → FreshGives before b sizes y t → (r ≡ t) × (a ≡ b) × (x ≡ y)
fresh-unique before a b sizes x y r t (m, f, p) (n, g, q) =
    let (e, o) = fresh-made before a b m n f g in
    let (number, same) = out-one m n sizes x y r t o p q in
    (number, e, same)

module _ (s : Store) (w : Sound s ⊎ (Shaped s → ⊥)) where
  pub get-unique : (key before x y : Words) (r t : ℕ) → GetGives s key before x r → GetGives s key before y t → (r ≡ t) × (x ≡ y)
  get-unique key before x y r t (a, f, p) (b, g, q) = out-one a b before x y r t (get-answer s key a b w f g) p q

  pub next-unique : (before x y : Entry) (r t : ℕ) → NextGives s before x r → NextGives s before y t → (r ≡ t) × (x ≡ y)
  next-unique before x y r t (a, f, p) (b, g, q) =
      next-out b before x y r t (subst (λ k. NextOut k before x r) (next-answer s before.key a b w f g) p) q

  pub length-unique : (before x y r t : ℕ) → LengthGives s before x r → LengthGives s before y t → (r ≡ t) × (x ≡ y)
  length-unique before x y r t (a, f, p) (b, g, q) = out-one a b before x y r t (length-answer s a b w f g) p q

  pub set-unique : (key value words : Words) (x y : Store) (u v : Words) (r t : ℕ)
      → SetGives s key value words x u r → SetGives s key value words y v t → (r ≡ t) × (x ≡ y) × (u ≡ v)
  set-unique key value words x y u v r t (a, f, p) (b, g, q) =
      let (e, o) = set-done s key value x.slices y.slices a b w f g in
      let (number, same) = out-one a b (words, s.sizes) (u, x.sizes) (v, y.sizes) r t o p q in
      (number, (λ j. store (e j) (same j).1), λ j. (same j).0)

  pub reserve-unique : (n : ℕ) (x y : Store) (r t : ℕ) → ReserveGives s n x r → ReserveGives s n y t → (r ≡ t) × (x ≡ y)
  reserve-unique n x y r t (a, f, p) (b, g, q) =
      let (e, o) = reserve-done s n x.slices y.slices a b w f g in
      let (number, sizes) = out-one a b s.sizes x.sizes y.sizes r t o p q in
      (number, λ j. store (e j) (sizes j))
