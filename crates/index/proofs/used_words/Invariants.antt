-- `index::used_words`: what is counted is what is used of the words before this one. Assumes nothing.
use Rattle.std.proofs.Common.{◌≡◌, ◌+◌, ◌≤◌, drop}
use Rattle.index.specs.Index.{used}
use Rattle.index.proofs.used_words.Given as goal

abbrev pub invariant-loop-word : goal.invariant-loop-word
invariant-loop-word l = (l.used ≤ l.word-index) × (l.used + used (drop l.word-index l.index) ≡ used l.index)
