-- `reads::next_key` meets its contract: on from the key's place in the array, or from the entry that the search answers. Assumes nothing.
use mathlib.Core.Path.{refl, sym, ◌∙◌}
use native.Mathlib.Omega.{arith}
use Rattle.model.specs.Entries.{not_found}
use Rattle.reads.proofs.Keys.{place_in, next-in, next-by}
use Rattle.reads.proofs.next_key.Goals as goal

pub overflow_add-place_of : goal.overflow_add-place_of
overflow_add-place_of c =
    let shape = c.requires in
    omega (arith, place_in _ _ _ c.place_of.ensures (sym c.is_within.ensures ∙ c.if-is_within.true), shape.size_fits, shape.lengths.array_most)

pub next_pair-requires : goal.next_pair-requires
next_pair-requires c =
    (c.requires, omega (arith, place_in _ _ _ c.place_of.ensures (sym c.is_within.ensures ∙ c.if-is_within.true)))

pub returns-then-is_within : goal.returns-then-is_within
returns-then-is_within c =
    let within = sym c.is_within.ensures ∙ c.if-is_within.true in
    (_, c.next_pair.ensures, λ S. next-in _ _ _ c.place_of.ensures within)

pub returns-in-At : goal.returns-in-At
returns-in-At c = let u = c.in_use-entries.ensures in (
  _,
  rw (u.words, u.count) at c.next_entry.ensures,
  λ S. next-by _ _ (sym c.is_within.ensures ∙ c.if-is_within.false) S c.search.result _ (rw (u.words, u.count) at c.search.ensures.right) c.in-At.is,
)

pub returns-in-Absent : goal.returns-in-Absent
returns-in-Absent c = let u = c.in_use-entries.ensures in (
  not_found,
  refl,
  λ S. next-by _ _ (sym c.is_within.ensures ∙ c.if-is_within.false) S c.search.result _ (rw (u.words, u.count) at c.search.ensures.right) c.in-Absent.is,
)

pub returns-in-Full : goal.returns-in-Full
returns-in-Full c = let u = c.in_use-entries.ensures in (
  not_found,
  refl,
  λ S. next-by _ _ (sym c.is_within.ensures ∙ c.if-is_within.false) S c.search.result _ (rw (u.words, u.count) at c.search.ensures.right) c.in-Full.is,
)
