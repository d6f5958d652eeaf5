-- `growth::count_entries` meets its contract: the entries before entry i are counted. Assumes nothing.
use Rattle.store.specs.Written.{entry_at}
use Rattle.growth.specs.Counts.{Counted}
use Rattle.growth.proofs.Turns.{firsts}
use Rattle.growth.proofs.count_entries.Given as goal

abbrev pub invariant-loop-i : goal.invariant-loop-i
invariant-loop-i l = Counted (firsts (entry_at l.entries.words.now) l.i) l.initial.counts l.counts
