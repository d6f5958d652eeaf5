-- `session::serve_record` meets its contract: by what the record is read as. Assumes nothing.
use mathlib.Core.Path.{◌≡◌, sym}
use native.Mathlib.Omega.{arith}
use Rattle.std.specs.Prelude.{None, Some, Ok}
use Rattle.store.specs.Store.{slices, store_of}
use Rattle.records.specs.Requests.{reading}
use Rattle.records.proofs.Readings.{request-fits}
use Rattle.session.proofs.Ways.{way_end, way-fault, way-request}
use Rattle.session.proofs.serve_record.Goals as goal

pub record_size-requires : goal.record_size-requires
record_size-requires c =
    let read : reading c.args.input.now ≡ Ok (Some c.in-Ok-Some.request) = cc in
    omega (arith, request-fits _ _ read)

pub returns-in-Ok-None-clause-served_into : goal.returns-in-Ok-None-clause-served_into
returns-in-Ok-None-clause-served_into c =
    let read : reading c.args.input.now ≡ Ok None = cc in (way_end read).0

pub returns-in-Err-clause-served_into : goal.returns-in-Err-clause-served_into
returns-in-Err-clause-served_into c =
    (way-fault _ (sym c.in-Err.ensures) (rw c.from.ensures at c.write-in-Err.ensures)).0

pub returns-in-Ok-Some : goal.returns-in-Ok-Some
returns-in-Ok-Some c =
    let given = c.args in
    let left = c.answer-reply.new in
    let read : reading given.input.now ≡ Ok (Some c.in-Ok-Some.request) = cc in
    let t = way-request {s = store_of given.array.now given.entries.now given.index.now given.sizes}
    {a = slices left.array left.entries left.index}
    _ read c.answer-reply.ensures c.record_size.ensures c.write.ensures in record { served_into = t.0; paced = t.1 }
