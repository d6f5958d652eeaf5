-- `reads::has_entry` meets its contract: an entry is there exactly when the search answers one. Assumes nothing.
use mathlib.Core.Path.{sym, ap, ◌∙◌}
use Rattle.key.specs.Canonical.{integer}
use Rattle.store.proofs.Keys.{there_by, has-by}
use Rattle.reads.proofs.has_entry.Goals as goal

pub returns-in-At : goal.returns-in-At
returns-in-At c =
    λ R. let e = c.args.entries.now in
    sym (has-by e.words.now e.count c.args.index.now (integer c.args.n) c.search.result (rw c.new.ensures at (c.search.ensures.right R)) ∙ ap there_by c.in-At.is)

pub returns-in-Absent : goal.returns-in-Absent
returns-in-Absent c =
    λ R. let e = c.args.entries.now in
    sym (has-by e.words.now e.count c.args.index.now (integer c.args.n) c.search.result (rw c.new.ensures at (c.search.ensures.right R)) ∙ ap there_by c.in-Absent.is)
