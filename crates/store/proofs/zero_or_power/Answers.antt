-- `store::zero_or_power` meets its contract. Assumes nothing.
use mathlib.Core.Logic.{inl, inr}
use Rattle.lent.proofs.Says.{says_same}
use Rattle.store.proofs.Power.{says-power}
use Rattle.store.proofs.zero_or_power.Goals as goal

pub returns-else-n-eq0 : goal.returns-else-n-eq0
returns-else-n-eq0 c =
    says_same inr (λ z. elim z [ inl e ↦ absurd (c.if-n-eq0.false e) | inr p ↦ p ]) (rw c.is_power_of_two.ensures (says-power c.args.n))
