-- `rehash::send` meets its contract. Assumes nothing.
use Rattle.std.proofs.Common.{arith}
use Rattle.model.proofs.Array.{place-within}
use Rattle.rehash.proofs.send.Goals as goal

pub put_value-requires : goal.put_value-requires
put_value-requires c =
    omega (arith, place-within c.args.size c.args.key (cc), c.place_of.ensures)
