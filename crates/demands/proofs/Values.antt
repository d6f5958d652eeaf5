-- The demands with Values: after a set that is done, a get shows the Value that was stored; and a walk that is handed Values and passes
-- them back is a walk. Assumes nothing.
use mathlib.Core.Path.{◌≡◌, refl, ap, subst, ◌∙◌}
use mathlib.Core.List.{List}
use Rattle.value.specs.declared.Value.{Value}
use Rattle.value.specs.declared.Words.{Words}
use Rattle.value.specs.Encoding.{encoded, or_nil, Typed, settled}
use Rattle.value.proofs.RoundTrip.{stored-read, encoded-decodes}
use Rattle.key.specs.Canonical.{canonical_key}
use Rattle.model.specs.Entries.{Entry}
use Rattle.store.specs.declared.Record.{Record}
use Rattle.store.specs.Store.{Slices, Store, store}
use Rattle.store.specs.Written.{Sound}
use Rattle.reads.specs.Reads.{NextAnswers}
use Rattle.table.specs.Values.{got_of, GetValue, SetValue, NextOfValue}
use Rattle.table.proofs.Readings.{set_words, next-words}
use Rattle.demands.specs.Walks.{Walking}
use Rattle.demands.proofs.Demand1.{last-shown}
use Rattle.demands.proofs.Demand3.{demand3}
use Rattle.std.specs.Prelude.{Result, Ok}
use Rattle.value.specs.declared.refusal.Refusal.{Refusal}
use Rattle.reads.specs.declared.Next.TheVariants.{Found}

-- at every key that is the one set, such as 1 and 1.0
pub value-shown : (s : Store) (key v p : Value) (after : Slices) (x : Record) (k : Words) → Sound s → Typed v → canonical_key (encoded key) ≡ Ok k
    → SetValue s key v after (Ok (p, x)) → (j : Value) → Typed j → canonical_key (encoded j) ≡ Ok k → (r : Result Value Refusal) → GetValue (store after x) j r → r ≡ Ok (settled v)
value-shown s key v p after x k S tv c d j tj e r g =
    let w = set_words s key v p after x d in
    g.2
    ∙ ap got_of (last-shown s (encoded key) (encoded v) after (Ok (w.0, x)) S w.1 k c refl (encoded j) (encoded-decodes j tj) e g.0 g.1)
    ∙ ap (λ (b : Result Value Refusal). Ok (or_nil b)) (stored-read v tv)

-- from the Value that was handed out last, Nil before the first
pub values-walk : {s₀ s : Store} {allowed : List Words} {key : Words} {handed : List Entry} → Sound s₀ → Walking s₀ s allowed key handed
    → (x k v : Value) → encoded x ≡ key → NextOfValue s x (Ok (Found k v)) → NextAnswers s key (Ok (Found (encoded k) (encoded v)))
values-walk {s = s} S w x k v e n = subst (λ (j : Words). NextAnswers s j (Ok (Found (encoded k) (encoded v)))) e (next-words (demand3 S w).sound x k v n)
