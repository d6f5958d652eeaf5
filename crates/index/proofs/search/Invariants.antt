-- `index::search` meets its contract: a climb from the key's home that stops at an empty word and at an entry with the key. Assumes nothing.
use Rattle.index.proofs.Searches.{Climbing}
use Rattle.index.proofs.search.Given as goal

abbrev pub invariant-loop : goal.invariant-loop
invariant-loop l = Climbing l.entries.words.now l.entries.count l.index l.key l.counter l.j
