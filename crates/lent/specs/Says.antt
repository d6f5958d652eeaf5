-- A test that says yes exactly when something holds. Assumes nothing.
use Rattle.std.specs.Prelude.{◌≡◌, Bool, true}

pub record Says (r : Bool) (X : Type 0) : Type 0 where
  pub only : r ≡ true → X
  pub whenever : X → r ≡ true
