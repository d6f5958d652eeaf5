-- `store::fresh` meets its contract. Assumes nothing.
use Rattle.lent.proofs.Says.{said-yes}
use Rattle.store.proofs.Unique.{fresh-written}
use Rattle.store.proofs.fresh.Goals as goal

pub returns : goal.returns
returns c = (
  said-yes c.right_lengths.ensures c.if-not-right_lengths.false,
  fresh-written _ (c.fill.ensures.after (λ y e. e)) (c.fill-2.ensures.after (λ y e. e)) (c.fill-3.ensures.after (λ y e. e)),
)
