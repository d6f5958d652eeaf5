-- A call with Values is the call on words for the words of what was passed, its answer read as a Value. Assumes nothing.
use mathlib.Core.Path.{◌≡◌, subst}
use Rattle.value.specs.declared.Value.{Value}
use Rattle.value.specs.declared.Words.{Words}
use Rattle.value.specs.Encoding.{encoded}
use Rattle.store.specs.declared.Record.{Record}
use Rattle.store.specs.Store.{Slices, Store}
use Rattle.reads.specs.Reads.{GetAnswers, NextAnswers}
use Rattle.writes.specs.Writes.{SetDone}
use Rattle.table.specs.Values.{got_of, stored_of, next_value_of, GetValue, SetValue, NextOfValue}
use Rattle.std.specs.Prelude.{Result}
use Rattle.value.specs.declared.refusal.Refusal.{Refusal}
use Rattle.reads.specs.declared.Next.{Next}

-- ---- k and w are the words of the key and of the value
module _ (s : Store) (key : Value) (k : Words) (e : k ≡ encoded key) where
  pub gets : (a : Result Words Refusal) (r : Result Value Refusal) → GetAnswers s k a → r ≡ got_of a → GetValue s key r
  gets a r p q = (a, subst (λ (x : Words). GetAnswers s x a) e p, q)

  pub nexts : (a : Result (Next Words) Refusal) (r : Result (Next Value) Refusal) → NextAnswers s k a → r ≡ next_value_of a → NextOfValue s key r
  nexts a r p q = (a, subst (λ (x : Words). NextAnswers s x a) e p, q)

  pub sets : (v : Value) (w : Words) → w ≡ encoded v → (after : Slices) (a : Result (Words × Record) Refusal) (r : Result (Value × Record) Refusal) → SetDone s k w after a → r ≡ stored_of a → SetValue s key v after r
  sets v w f after a r p q = (a, subst (λ (x : Words). SetDone s x (encoded v) after a) e (subst (λ (x : Words). SetDone s k x after a) f p), q)
