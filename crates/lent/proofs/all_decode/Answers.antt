-- `lent::all_decode` meets its contract. Assumes nothing.
use Rattle.std.proofs.Common.{◌/◌, length, refl, arith, rules}
use Rattle.value.specs.Encoding.{Decodes}
use Rattle.lent.specs.Lent.{value_at}
use Rattle.lent.proofs.Says.{says_same, says_all}
use Rattle.lent.proofs.all_decode.Goals as goal

pub returns : goal.returns
returns c =
    let ws = c.args.words.now in
    says_same (λ all i h. all i (omega arith)) (λ all i h. all i (omega arith))
    (says_all (length ws / 2) (λ i. Decodes (value_at ws i)) c.all.ensures.ran refl (λ x b q k. search rules))
