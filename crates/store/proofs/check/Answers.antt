-- `store::check` meets its contract: the clauses are soundness. Assumes nothing.
use Rattle.lent.proofs.Says.{says-no, says_same, said-no}
use Rattle.store.proofs.Sound.{clauses-sound, sound-clauses, sound-shaped}
use Rattle.store.proofs.check.Goals as goal

pub returns-then-not-is_shaped : goal.returns-then-not-is_shaped
returns-then-not-is_shaped c =
    says-no (λ S. said-no c.is_shaped.ensures c.if-not-is_shaped.true (sound-shaped _ S))

pub returns : goal.returns
returns c =
    says_same (clauses-sound _) (sound-clauses _) c.clauses_hold.ensures
