-- `reads::get_key` meets its contract: by the key's place in the array, or by what the search answers. Assumes nothing.
use mathlib.Core.Path.{sym, ◌∙◌}
use native.Mathlib.Omega.{arith}
use Rattle.store.proofs.Sound.{fits}
use Rattle.reads.proofs.Keys.{place_in, lookup-in, lookup-by}
use Rattle.reads.proofs.get_key.Goals as goal

pub value_at-requires : goal.value_at-requires
value_at-requires c =
    omega (arith, place_in _ _ _ c.place_of.ensures (sym c.is_within.ensures ∙ c.if-is_within.true), (fits _ _ c.requires).array)

pub returns-then-is_within : goal.returns-then-is_within
returns-then-is_within c =
    λ S. c.value_at.ensures ∙ sym (lookup-in _ _ _ c.place_of.ensures (sym c.is_within.ensures ∙ c.if-is_within.true))

pub returns-in-At : goal.returns-in-At
returns-in-At c =
    λ S. let u = c.in_use-entries.ensures in
    (rw u.words at c.value.ensures)
    ∙ sym (lookup-by _ _ (sym c.is_within.ensures ∙ c.if-is_within.false) S c.search.result _ (rw (u.words, u.count) at c.search.ensures.right) c.in-At.is)

pub returns-in-Absent : goal.returns-in-Absent
returns-in-Absent c =
    λ S. let u = c.in_use-entries.ensures in
    sym (lookup-by _ _ (sym c.is_within.ensures ∙ c.if-is_within.false) S c.search.result _ (rw (u.words, u.count) at c.search.ensures.right) c.in-Absent.is)

pub returns-in-Full : goal.returns-in-Full
returns-in-Full c =
    λ S. let u = c.in_use-entries.ensures in
    sym (lookup-by _ _ (sym c.is_within.ensures ∙ c.if-is_within.false) S c.search.result _ (rw (u.words, u.count) at c.search.ensures.right) c.in-Full.is)
