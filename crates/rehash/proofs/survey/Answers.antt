-- `rehash::survey` meets its contract. Assumes nothing.
use Rattle.std.proofs.Common.{◌-◌, refl, rules, tests}
use Rattle.std.proofs.lemmas.Iterator.{YieldsList-from_range, first_from_Range}
use Rattle.std.proofs.lemmas.Iterator.Consumers.{YieldsList-from_filter, count_from_yields_List}
use Rattle.model.specs.Growth.{stays}
use Rattle.store.specs.Written.{entry_at}
use Rattle.rehash.proofs.Turns.{surveyed}
use Rattle.rehash.proofs.survey.Goals as goal

pub returns : goal.returns
returns c =
    let a = c.args in
    let e = a.entries.now in
    let ws = e.words.now in
    let first = c.unwrap_or-first.result in
    surveyed ws e.count a.size c.find.result first c.count-later.result c.unwrap_or-first.ensures
    (first_from_Range _ _ _ _ _ _ c.find.ensures.ran (λ x q k. search (rules, tests)) (λ x q k. search (rules, tests)))
    (count_from_yields_List c.filter.result _ c.count-later.ensures.ran
    (YieldsList-from_filter _ (λ i. stays a.size (entry_at ws i)) (YieldsList-from_range first e.count (e.count - first) (cc) refl)
    c.filter.ensures.closure (λ x b q k. search (rules, tests))))
