-- `reads::halve` meets its contract: on a sound store, what is left of the halving gives the answer. Assumes nothing.
use Prim.Native.Nat.{◌-◌, ◌≤◌}
use Rattle.model.specs.Length.{nil_at, halve}
use Rattle.store.specs.Store.{seen}
use Rattle.store.specs.Written.{Sound, table_of}
use Rattle.reads.proofs.Halving.{Halving}
use Rattle.reads.proofs.Rounds.{halvings}
use Rattle.reads.proofs.halve.Given as goal

abbrev pub invariant-loop-max : goal.invariant-loop-max
invariant-loop-max l = let s = seen l.view in
    let nils = nil_at (table_of s) in
    (l.min ≤ l.max) × (l.max ≤ l.high) × (Sound s → Halving nils (halve nils 64 l.low l.high) l.min l.max)

abbrev pub decreases-loop-max : goal.decreases-loop-max
decreases-loop-max l = halvings (l.max - l.min)
