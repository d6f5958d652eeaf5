-- The constants of src/lib.rt are the numbers of specs/Input.antt. Assumes nothing.
use Rattle.std.proofs.Common.{◌≡◌, refl}
use Rattle.console.specs.declared.TheConstants.{BYTES, ROOM}
use Rattle.console.specs.Input.{byte_room, word_room}

pub bytes-are : BYTES ≡ byte_room
bytes-are = refl

pub room-is : ROOM ≡ word_room
room-is = refl
