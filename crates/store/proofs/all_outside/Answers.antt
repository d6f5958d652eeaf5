-- `store::all_outside` meets its contract. Assumes nothing.
use Rattle.std.proofs.Common.{refl, rules}
use Rattle.lent.proofs.Says.{says_all}
use Rattle.model.specs.WellFormed.{Outside}
use Rattle.store.specs.Written.{entry_at}
use Rattle.store.proofs.all_outside.Goals as goal

pub returns : goal.returns
returns c = says_all c.args.entries.now.count (λ i. Outside c.args.size (entry_at c.args.entries.now.words.now i)) c.all.ensures.ran refl (λ i b q k. search rules)
