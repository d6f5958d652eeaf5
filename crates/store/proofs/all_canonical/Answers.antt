-- `store::all_canonical` meets its contract. Assumes nothing.
use Rattle.std.proofs.Common.{refl, rules}
use Rattle.lent.proofs.Says.{says_all}
use Rattle.model.specs.WellFormed.{Canonical}
use Rattle.store.specs.Written.{entry_at}
use Rattle.store.proofs.all_canonical.Goals as goal

pub returns : goal.returns
returns c = says_all c.args.entries.now.count (λ i. Canonical (entry_at c.args.entries.now.words.now i)) c.all.ensures.ran refl (λ i b q k. search rules)
