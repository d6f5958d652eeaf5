-- What `fresh` promises, by its answer: in slices of right lengths the writing of the fresh table and its record; in others refusal 4 and
-- every word as it was. Assumes nothing.
use Rattle.std.specs.Prelude.{◌≡◌, Result, Ok, Err}
use Rattle.store.specs.declared.Record.{Record}
use Rattle.model.specs.Table.{fresh}
use Rattle.store.specs.Store.{Slices, store, lengths_of}
use Rattle.store.specs.Shape.{RightLengths}
use Rattle.store.specs.Written.{written}
use Rattle.value.specs.declared.refusal.Refusal.{Refusal}
use Rattle.value.specs.declared.refusal.Refusal.TheVariants.{WrongShape}

abbrev pub FreshMade : Slices → Slices → Result Record Refusal → Type 0
FreshMade before after (Ok r) = RightLengths (lengths_of before) × (store after r ≡ written (lengths_of before) fresh)
FreshMade before after (Err e) = (RightLengths (lengths_of before) → ⊥) × (e ≡ WrongShape) × (after ≡ before)
