-- There is one NaN. Assumes nothing.
use mathlib.Core.Path.{◌≡◌, refl}
use mathlib.Core.Bool.{true}
use lib.Ieee.{Float, nan, inf, fin, is_nan}
use Rattle.value.proofs.Cases.{clash}

pub nan-one : (x : Float) → is_nan x ≡ true → nan ≡ x
unfolding is_nan
nan-one nan t = refl
nan-one (inf s) t = clash t refl
nan-one (fin s m e) t = clash t refl
