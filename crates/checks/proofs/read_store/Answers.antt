-- `checks::read_store` meets its contract. Assumes nothing.
use Rattle.std.proofs.Common.{◌≡◌, ℕ, ◌<◌, get_or, refl, sym, ◌∙◌, arith}
use Rattle.std.proofs.lemmas.List.{get_or-take}
use Rattle.checks.proofs.Cuts.{cut_thrice}
use Rattle.checks.proofs.read_store.Goals as goal

pub returns-clause-parts : goal.returns-clause-parts
returns-clause-parts c =
    let ws = c.args.words.now in
    let header = c.in_ok-array.ensures.cases in
    let at : (k : ℕ) → k < 6 → get_or c.in_ok-array.field-0-0.now k 0 ≡ get_or ws k 0 = λ k l. rw header.0 (get_or-take 6 ws k 0 l) in
    let array = c.in_ok-array-2.ensures.cases in
    let entries = c.in_ok-entries.ensures.cases in
    let index = c.in_ok-index.ensures.cases in (
      array.3 ∙ at 0 (omega arith),
      entries.3 ∙ at 1 (omega arith),
      index.3 ∙ at 2 (omega arith),
      rw (at 3 (omega arith), at 4 (omega arith), at 5 (omega arith)) refl,
      sym header.1 ∙ cut_thrice array entries index,
    )
