-- `key::canonical_key` meets its contract. Assumes nothing.
use Rattle.std.proofs.Common.{◌≡◌, rules}
use borrow.Author.Tests.{ne_eqb}
use Rattle.key.specs.Canonical.{canonical_key}
use Rattle.key.proofs.canonical_key.Goals as goal

pub returns-in-0 : goal.returns-in-0
unfolding canonical_key
returns-in-0 c = simp c.in-0.is

pub returns-in-3 : goal.returns-in-3
unfolding canonical_key
returns-in-3 c = simp (c.in-3.is, c.number_key.ensures)

pub returns-in_default : goal.returns-in_default
unfolding canonical_key
returns-in_default c =
    let no_nil : c.args.key.kind ≡ 0 → ⊥ = search rules in
    let no_number : c.args.key.kind ≡ 3 → ⊥ = search rules in
    simp (ne_eqb _ _ no_nil, ne_eqb _ _ no_number)
