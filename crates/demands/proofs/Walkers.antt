-- Demand 3 over the walker: a walker that keeps the key of a walk steps as `next` does, and so all is promised of its step that is proved of
-- the walk. Assumes nothing.
use mathlib.Core.Path.{◌≡◌, refl, sym, ap, subst, ◌∙◌}
use mathlib.Core.Bool.{true, false}
use mathlib.Core.List.{List}
use Rattle.value.specs.declared.Value.{Value}
use Rattle.value.specs.declared.Words.{Words}
use Rattle.value.specs.Encoding.{encoded}
use Rattle.value.specs.Same.{nil, is_nil}
use Rattle.value.proofs.Cases.{clash, never}
use Rattle.value.proofs.Same.{same_refl}
use Rattle.model.specs.Entries.{Entry}
use Rattle.store.specs.Store.{Store}
use Rattle.store.specs.Written.{Sound}
use Rattle.reads.specs.Reads.{NextAnswers}
use Rattle.table.specs.Values.{got_of, next_value_of, NextOfValue}
use Rattle.table.proofs.Readings.{next-again}
use Rattle.iter.specs.declared.Walker.{Walker}
use Rattle.iter.specs.declared.Stepped.{Stepped}
use Rattle.iter.specs.Walker.{walker, stepped, start, advanced, WalkerSteps}
use Rattle.demands.specs.Walks.{Walking, Throughout, StoreWalked}
use Rattle.demands.specs.Walkers.{Keeps, WalkerWalked}
use Rattle.demands.proofs.Values.{values-walk}
use Rattle.demands.proofs.Demand3.{demand3}
use Rattle.std.specs.Prelude.{Some, None, Result, Ok, Err}
use Rattle.value.specs.declared.refusal.Refusal.{Refusal}
use Rattle.reads.specs.declared.Next.{Next}
use Rattle.reads.specs.declared.Next.TheVariants.{Found, Last, NotFound}

pub walker-starts : Keeps start nil
walker-starts = (refl, refl)

module _ {s₀ s : Store} {allowed : List Words} {key : Words} {handed : List Entry} (S : Sound s₀) (h : Walking s₀ s allowed key handed) (w : Walker) (e : Keeps w key) where
  m : StoreWalked s₀ s key handed (Throughout h)
  m = demand3 S h

  -- a step is what comes of an answer of `next` from the key of the walk
  by_next : (r : Stepped) → WalkerSteps s w r → (n : Result (Next Words) Refusal) × NextAnswers s key n × (r ≡ advanced w (next_value_of n))
  by_next r p =
      let g = p.goes e.1 in
      (g.1.0, subst (λ (k : Words). NextAnswers s k g.1.0) e.0 g.1.1, g.2 ∙ ap (advanced w) g.1.2)

  -- a pair is one that `next` finds
  pair_found : (w' : Walker) (k v : Value) → WalkerSteps s w (stepped w' (Ok (Some (k, v)))) → NextOfValue s w.key (Ok (Found k v)) × (w' ≡ walker k false)
  pair_found w' k v p = let g = p.goes e.1 in go g.0 g.1 (ap (λ (r : Stepped). r.answer) g.2) (ap (λ (r : Stepped). r.walker) g.2)
    where
      go : (n : Result (Next Value) Refusal) → NextOfValue s w.key n → Ok (Some (k, v)) ≡ (advanced w n).answer → w' ≡ (advanced w n).walker
          → NextOfValue s w.key (Ok (Found k v)) × (w' ≡ walker k false)
      go (Ok (Found i j)) q a b =
          let pair : ◌≡◌ {A = Value × Value} (k, v) (i, j) = cc in
          let f : ◌≡◌ {A = Result (Next Value) Refusal} (Ok (Found i j)) (Ok (Found k v)) = ap (λ (x : Value × Value). Ok (Found x.0 x.1)) (sym pair) in
          (subst (NextOfValue s w.key) f q, b ∙ ap (λ (x : Value × Value). walker x.0 false) (sym pair))
      go (Ok Last) q a b = never (cc)
      go (Ok NotFound) q a b = never (cc)
      go (Err i) q a b = never (cc)

  goes_on : (w' : Walker) (k v : Value) → WalkerSteps s w (stepped w' (Ok (Some (k, v)))) → NextAnswers s key (Ok (Found (encoded k) (encoded v)))
  goes_on w' k v p = values-walk S h w.key k v e.0 (pair_found w' k v p).0

  -- the end comes of Last only, and no refusal comes
  at_last : (w' : Walker) (n : Result (Next Words) Refusal) → NextAnswers s key n → Ok None ≡ (advanced w (next_value_of n)).answer → w' ≡ (advanced w (next_value_of n)).walker
      → NextAnswers s key (Ok Last) × (w'.done ≡ true)
  at_last w' (Ok (Found a b)) p x y = never (cc)
  at_last w' (Ok Last) p x y = (p, ap (λ (z : Walker). z.done) y)
  at_last w' (Ok NotFound) p x y = absurd (m.there p)
  at_last w' (Err i) p x y = never (cc)

  no-refusal : (i : Refusal) (n : Result (Next Words) Refusal) → NextAnswers s key n → Err i ≡ (advanced w (next_value_of n)).answer → ⊥
  no-refusal i (Ok (Found a b)) p x = never (cc)
  no-refusal i (Ok Last) p x = never (cc)
  no-refusal i (Ok NotFound) p x = never (cc)
  no-refusal i (Err j) p x = m.answered j p

  pub walker-demand3 : WalkerWalked s₀ s key handed (Throughout h) w
  walker-demand3 =
      record {
        on = λ w' k v p. let f = (pair_found w' k v p).1 in (goes_on w' k v p, (ap (λ (x : Walker). encoded x.key) f, ap (λ (x : Walker). x.done) f));
        shows = λ w' k v p.
            let x = m.shows (encoded k) (encoded v) (goes_on w' k v p) in (
              λ a g. g.2 ∙ ap got_of (x.0 g.0 g.1) ∙ ap Ok (next-again m.sound w.key k v (pair_found w' k v p).0).1,
              λ z. clash (same_refl nil) (subst (λ (y : Value). is_nil (encoded y) ≡ false) z x.1),
              x.2,
            );
        not_refused = λ w' i p. let n = by_next (stepped w' (Err i)) p in no-refusal i n.0 n.1 (ap (λ (r : Stepped). r.answer) n.2);
        ends = λ w' a l p.
            let n = by_next (stepped w' a) p in
            ap (λ (r : Stepped). r.answer) (n.2 ∙ ap (λ (y : Result (Next Words) Refusal). advanced w (next_value_of y)) (m.ends n.0 l n.1));
        all = λ w' p.
            let n = by_next (stepped w' (Ok None)) p in
            let x = at_last w' n.0 n.1 (ap (λ (r : Stepped). r.answer) n.2) (ap (λ (r : Stepped). r.walker) n.2) in
            (x.1, m.all x.0);
      }
