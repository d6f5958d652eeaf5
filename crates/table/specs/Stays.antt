-- A store that a call leaves sound, in slices of the same lengths. Assumes nothing.
use Rattle.std.specs.Prelude.{◌≡◌}
use Rattle.store.specs.Store.{Store, lengths_of}
use Rattle.store.specs.Written.{Sound}

pub record Stays (before after : Store) : Type 0 where
  pub sound : Sound after
  pub lengths : lengths_of after.slices ≡ lengths_of before.slices
