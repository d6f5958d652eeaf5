-- The constants of src/main.rt are the numbers of specs/Numbers.antt. Assumes nothing.
use Rattle.std.proofs.Common.{◌≡◌, refl}
use Rattle.replay.specs.declared.TheConstants.{FILE, INPUT, OUTPUT, MODULUS}
use Rattle.replay.specs.Numbers.{file_room, most_input, output_room, modulus}

pub file-is : FILE ≡ file_room
file-is = refl

pub input-is : INPUT ≡ most_input
input-is = refl

pub output-is : OUTPUT ≡ output_room
output-is = refl

pub modulus-is : MODULUS ≡ modulus
modulus-is = refl
