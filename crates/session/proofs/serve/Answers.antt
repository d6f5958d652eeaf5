-- `session::serve` meets its contract. Assumes nothing.
use Rattle.std.proofs.Common.{◌≡◌, true, false, rules}
use Rattle.records.specs.Requests.{is_whole}
use Rattle.store.specs.Store.{store_of}
use Rattle.session.proofs.Turns.{left_of, turn-goes}
use Rattle.session.proofs.serve.Goals as goal
use Rattle.session.proofs.serve.Goals.{then-last, else-last}

pub loop-done-preserved : goal.loop-done-preserved
loop-done-preserved c =
    let whole : c.args.last ≡ false → is_whole (left_of c.loop-done.done.taken c.args.input.now) ≡ true =
    elim c.if-last.branch [ then-last w ↦ λ f. cc | else-last w ↦ λ f. cc ] in
    let goes : c.loop-done.done.stopped ≡ false = search rules in
    let a = c.args in
    turn-goes {s = store_of a.array.now a.entries.now a.index.now a.sizes} c.loop-done.invariant goes whole c.serve_record-next.ensures.served_into c.serve_record-next.ensures.paced
