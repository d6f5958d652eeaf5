-- The demands over the calls for C: any row of them leaves a sound store; a refused one leaves everything as it was; what sets there are in a
-- walk are sets of the walk; and `amzighrod_next` goes through a walk as `next` does. Assumes nothing.
use mathlib.Core.Path.{◌≡◌, sym, ap, subst, ◌∙◌}
use mathlib.Core.List.{List}
use mathlib.Core.Logic.{◌⊎◌, inl, inr}
use Prim.Native.Nat.{ℕ}
use native.Mathlib.Omega.{arith}
use Rattle.value.specs.declared.Words.{Words}
use Rattle.value.proofs.Cases.{never}
use Rattle.value.proofs.Refusals.{numbered}
use Rattle.model.specs.Entries.{Entry}
use Rattle.walk.specs.History.{May}
use Rattle.store.specs.declared.Record.{Record}
use Rattle.store.specs.Store.{Slices, Store, store}
use Rattle.store.specs.Written.{Sound}
use Rattle.store.proofs.Unique.{fresh-made-sound}
use Rattle.reads.specs.Reads.{NextAnswers}
use Rattle.writes.specs.Writes.{set_left, reserve_left}
use Rattle.host.specs.Host.{Out, FreshGives, SetGives, NextOut, NextGives, ReserveGives}
use Rattle.demands.specs.Walks.{Walking, set as sets, Throughout, StoreWalked}
use Rattle.demands.specs.Hosts.{FromC, none, fresh, set, reserve, HostWalked}
use Rattle.demands.proofs.Events.{refused-still}
use Rattle.demands.proofs.Demand3.{demand3}
use Rattle.std.specs.Prelude.{Result, Ok, Err}
use Rattle.value.specs.declared.refusal.Refusal.{Refusal}
use Rattle.reads.specs.declared.Next.{Next}
use Rattle.reads.specs.declared.Next.TheVariants.{Found, Last, NotFound}

-- ---- what a call for C leaves is what the call on words left
set-store : (a : Result (Words × Record) Refusal) (s u : Store) (before after : Words) (r : ℕ) → Out a (before, s.sizes) (after, u.sizes) r
    → ((set_left s.sizes u.slices a).store ≡ u) × ((set_left s.sizes u.slices a).refusal ≡ r)
set-store (Ok (p, x)) s u before after r o = (ap (λ (w : Words × Record). store u.slices w.1) (sym o.1), sym o.0)
set-store (Err e) s u before after r o = (ap (λ (w : Words × Record). store u.slices w.1) (sym o.1), sym o.0)

reserve-store : (a : Result Record Refusal) (s u : Store) (r : ℕ) → Out a s.sizes u.sizes r
    → ((reserve_left s.sizes u.slices a).store ≡ u) × ((reserve_left s.sizes u.slices a).refusal ≡ r)
reserve-store (Ok x) s u r o = (ap (store u.slices) (sym o.1), sym o.0)
reserve-store (Err e) s u r o = (ap (store u.slices) (sym o.1), sym o.0)

-- ---- any row of calls leaves a sound store, from one that `amzighrod_fresh` made
fresh-sound : (before : Slices) (x : Record) (u : Store) → FreshGives before u.slices x u.sizes 0 → Sound u
fresh-sound before x u (Ok y, f, o) = subst (λ (z : Record). Sound (store u.slices z)) (sym o.1) (fresh-made-sound before u.slices y f)
fresh-sound before x u (Err e, f, o) = absurd (omega (arith, numbered e, o.0))

fresh_keeps : (s u : Store) (r : ℕ) → FreshGives s.slices u.slices s.sizes u.sizes r → Sound s → Sound u
fresh_keeps s u r (Ok y, f, o) S = subst (λ (z : Record). Sound (store u.slices z)) (sym o.1) (fresh-made-sound s.slices u.slices y f)
fresh_keeps s u r (Err e, f, o) S = subst Sound (λ j. store (sym f.2 j) (sym o.1 j)) S

pub from-c-sound : {s u : Store} → Sound s → FromC s u → Sound u
from-c-sound S none = S
from-c-sound {s = s} S (fresh {t = t} r g rest) = from-c-sound (fresh_keeps s t r g S) rest
from-c-sound {s = s} S (set {t = t} key v before after r (a, p, o) rest) =
    from-c-sound (subst Sound (set-store a s t before after r o).0 (p.kept S)) rest
from-c-sound {s = s} S (reserve {t = t} n r (a, p, o) rest) =
    from-c-sound (subst Sound (reserve-store a s t r o).0 (p.kept S)) rest

pub from-fresh-sound : (before : Slices) (x : Record) (s u : Store) → FreshGives before s.slices x s.sizes 0 → FromC s u → Sound u
from-fresh-sound before x s u f c = from-c-sound (fresh-sound before x s f) c

-- ---- a refused call leaves every word, the record and the host's variables as they were, so it may come anywhere in a walk
pub set-still : (s u : Store) (key v before after : Words) (r : ℕ) → SetGives s key v before u after r → (r ≡ 0 → ⊥) → u ≡ s
set-still s u key v before after r (a, p, o) n =
    let x = set-store a s u before after r o in sym x.0 ∙ refused-still p (λ z. n (sym x.1 ∙ z))

pub reserve-still : (s u : Store) (m r : ℕ) → ReserveGives s m u r → (r ≡ 0 → ⊥) → u ≡ s
reserve-still s u m r (a, p, o) n =
    let x = reserve-store a s u r o in sym x.0 ∙ refused-still p (λ z. n (sym x.1 ∙ z))

pub fresh-still : (s u : Store) (r : ℕ) → FreshGives s.slices u.slices s.sizes u.sizes r → (r ≡ 0 → ⊥) → u ≡ s
fresh-still s u r (Ok y, f, o) n = absurd (n o.0)
fresh-still s u r (Err e, f, o) n = λ j. store (f.2 j) (o.1 j)

-- ---- a set of Nil, or to a key that had a value when the walk began
pub set_walks : {s₀ s : Store} {allowed : List Words} {key : Words} {handed : List Entry} (u : Store) (k v before after : Words) (r : ℕ) → SetGives s k v before u after r
    → May allowed k v → Walking s₀ s allowed key handed → Walking s₀ u allowed key handed
set_walks {s₀ = s₀} {s = s} {allowed = allowed} {key = key} {handed = handed} u k v before after r (a, p, o) m w =
    subst (λ (x : Store). Walking s₀ x allowed key handed) (set-store a s u before after r o).0 (sets k v u.slices a p m w)

-- ---- `amzighrod_next`
module _ {s₀ s : Store} {allowed : List Words} {key : Words} {handed : List Entry} (S : Sound s₀) (w : Walking s₀ s allowed key handed) where
  m : StoreWalked s₀ s key handed (Throughout w)
  m = demand3 S w

  -- what `next` answers, by the number: nothing else comes in a walk
  by_number : (a : Result (Next Words) Refusal) (before after : Entry) (r : ℕ) → NextAnswers s key a → NextOut a before after r
      → ((r ≡ 0) × NextAnswers s key (Ok (Found after.key after.value))) ⊎ ((r ≡ 1) × NextAnswers s key (Ok Last) × (after ≡ before))
  by_number (Ok (Found k v)) before after r p o = inl (o.0, subst (λ (x : Entry). NextAnswers s key (Ok (Found x.key x.value))) (sym o.1) p)
  by_number (Ok Last) before after r p o = inr (o.0, p, o.1)
  by_number (Ok NotFound) before after r p o = absurd (m.there p)
  by_number (Err e) before after r p o = absurd (m.answered e p)

  module _ (before after : Entry) (e : before.key ≡ key) where
    goes : (r : ℕ) → NextGives s before after r
        → ((r ≡ 0) × NextAnswers s key (Ok (Found after.key after.value))) ⊎ ((r ≡ 1) × NextAnswers s key (Ok Last) × (after ≡ before))
    goes r (a, p, o) = by_number a before after r (subst (λ (k : Words). NextAnswers s k a) e p) o

    pair : NextGives s before after 0 → NextAnswers s key (Ok (Found after.key after.value))
    pair g = elim (goes 0 g) [ inl x ↦ x.1 | inr x ↦ absurd (omega (arith, x.0)) ]

    last : NextGives s before after 1 → NextAnswers s key (Ok Last) × (after ≡ before)
    last g = elim (goes 1 g) [ inl x ↦ absurd (omega (arith, x.0)) | inr x ↦ (x.1, x.2) ]

    number : (r : ℕ) → NextGives s before after r → (r ≡ 0) ⊎ (r ≡ 1)
    number r g = elim (goes r g) [ inl x ↦ inl x.0 | inr x ↦ inr x.0 ]

  got : (a : Result Words Refusal) (x y v : Words) (r : ℕ) → a ≡ Ok v → Out a x y r → (r ≡ 0) × (y ≡ v)
  got a x y v r e o = subst (λ (b : Result Words Refusal). Out b x y r) e o

  pub host-demand3 : HostWalked s₀ s key handed (Throughout w)
  host-demand3 =
      record {
        numbers = λ before after r e g. number before after e r g;
        on = pair;
        shows = λ before after e g.
            let x = m.shows after.key after.value (pair before after e g) in
            (λ a b r (c, p, o). got c a b after.value r (x.0 c p) o, x.1, x.2);
        ends = λ before after r e l g.
            elim (goes before after e r g) [
              | inl x ↦ absurd (found-last (m.ends (Ok (Found after.key after.value)) l x.1))
              | inr x ↦ x.0
            ];
        all = λ before after e g. let x = last before after e g in (x.1, m.all x.0);
      }
    where
      found-last : {k v : Words} → ◌≡◌ {A = Result (Next Words) Refusal} (Ok (Found k v)) (Ok Last) → ⊥
      found-last e = never (cc)
