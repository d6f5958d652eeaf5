-- What a walker's step promises (01, 'Calls', walker): the answer and the walker after it. Assumes nothing.
use Rattle.std.specs.Prelude.{◌≡◌, Bool, true, false, Option, Some, None, Result, Ok, Err}
use Rattle.value.specs.declared.Value.{Value}
use Rattle.value.specs.declared.Value.TheVariants.{Nil}
use Rattle.value.specs.declared.refusal.Refusal.{Refusal}
use Rattle.value.specs.declared.refusal.Refusal.TheVariants.{WrongShape}
use Rattle.store.specs.Store.{Store}
use Rattle.store.specs.Shape.{Shaped}
use Rattle.reads.specs.declared.Next.{Next}
use Rattle.reads.specs.declared.Next.TheVariants.{Found, Last, NotFound}
use Rattle.table.specs.Values.{NextOfValue}
use Rattle.iter.specs.declared.Walker.{Walker}
use Rattle.iter.specs.declared.Stepped.{Stepped}

abbrev pub walker : Value → Bool → Walker
walker k d = record { key = k; done = d }

abbrev pub stepped : Walker → Result (Option (Value × Value)) Refusal → Stepped
stepped w a = record { walker = w; answer = a }

-- before the first pair
abbrev pub start : Walker
start = walker Nil false

abbrev pub ended : Value → Stepped
ended k = stepped (walker k true) (Ok None)

abbrev pub refused : Walker → Refusal → Stepped
refused w e = stepped w (Err e)

-- what a step comes to, by what `next` answers from the key that the walker keeps
abbrev pub advanced : Walker → Result (Next Value) Refusal → Stepped
advanced w (Ok (Found k v)) = stepped (walker k false) (Ok (Some (k, v)))
advanced w (Ok Last) = ended w.key
advanced w (Ok NotFound) = ended w.key
advanced w (Err e) = refused w e

pub record WalkerSteps (s : Store) (w : Walker) (r : Stepped) : Type 0 where
  -- the shape comes first, at the end too, and a refusal leaves the walker as it was
  pub wrong : (Shaped s → ⊥) → r ≡ refused w WrongShape
  -- after Last or NotFound the end for ever
  pub done : Shaped s → w.done ≡ true → r ≡ stepped w (Ok None)
  pub goes : w.done ≡ false → (n : Result (Next Value) Refusal) × NextOfValue s w.key n × (r ≡ advanced w n)
