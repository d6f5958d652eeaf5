-- `store::right_lengths` meets its contract: a test that fails breaks its clause, and the last one decides. Assumes nothing.
use native.Mathlib.Omega.{arith}
use Rattle.lent.proofs.Says.{says_same}
use Rattle.store.proofs.Power.{says-power}
use Rattle.store.proofs.right_lengths.Goals as goal

pub returns : goal.returns
returns c =
    says_same
    (λ p. record {
      array_whole = omega arith;
      entries_whole = omega arith;
      array_most = omega arith;
      entries_most = omega arith;
      index_power = p;
      index_least = omega arith;
      index_most = omega arith;
      index_enough = omega arith;
    })
    (λ l. l.index_power)
    (rw c.is_power_of_two.ensures (says-power c.args.index))
