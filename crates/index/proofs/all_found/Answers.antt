-- `index::all_found` meets its contract. Assumes nothing.
use Rattle.std.proofs.Common.{refl, rules}
use Rattle.lent.proofs.Says.{says_all}
use Rattle.index.specs.Search.{FindsOwn}
use Rattle.index.proofs.all_found.Goals as goal

pub returns : goal.returns
returns c =
    let a = c.args in
    let e = a.entries.now in
    says_all e.count (FindsOwn e.words.now e.count a.index.now) c.all.ensures.ran refl (λ i b q k. search rules)
