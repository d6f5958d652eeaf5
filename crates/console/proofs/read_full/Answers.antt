-- `console::read_full` meets its contract. Assumes nothing.
use Rattle.std.proofs.Common.{◌≤◌, length, take, ◌-◌, rules}
use Rattle.std.proofs.KnownBytes.{Consumes-trans}
use Rattle.std.specs.Io.KnownBytes.{Consumes}
use Rattle.console.proofs.Reading.{given-fits, given, take-read}
use Rattle.console.proofs.read_full.Goals as goal

pub loop-done-preserved : goal.loop-done-preserved
loop-done-preserved g c =
    let l = c.loop-done in
    let buf = c.read.new.buf in
    let n = c.unwrap_or-n.result in
    let fits : n ≤ length buf = rw c.unwrap_or-n.ensures (given-fits c.read.result buf c.read.ensures.bound) in
    let came : Consumes (g.R.Read.remaining l.input) (g.R.Read.remaining c.read.new.self) (take n buf) =
    rw c.unwrap_or-n.ensures (given _ _ c.read.result buf c.read.ensures.bytes) in
    (search rules, rw (take-read l.done n (length l.room - l.done) l.room buf l.invariant.0 fits) (Consumes-trans _ _ _ _ _ l.invariant.1 came))
