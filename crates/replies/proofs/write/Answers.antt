-- `replies::write` meets its contract: what a match took apart is the reply. Assumes nothing.
use mathlib.Core.Path.{◌≡◌}
use mathlib.Core.List.{[], ◌∷◌}
use borrow.Author.Rules.{rules}
use native.Mathlib.Omega.{arith}
use Rattle.records.specs.Bytes.{little_endian}
use Rattle.replies.proofs.Appending.{appends-then, appends-reply}
use Rattle.replies.proofs.write.Goals as goal

pub returns-in-Got : goal.returns-in-Got
unfolding little_endian
returns-in-Got c = appends-reply c.in-Got.is (appends-then c.put_head-body.ensures c.put_value.ensures)

pub returns-in-Set : goal.returns-in-Set
unfolding little_endian
returns-in-Set c =
    let byte : c.in-Set.n ∷ [] ≡ little_endian 1 c.in-Set.n = search rules in
    appends-reply c.in-Set.is
    (appends-then c.put_head-body-in-Set.ensures (appends-then (rw byte at c.put-previous.ensures) c.put_value-in-Set.ensures))

pub returns-in-Length : goal.returns-in-Length
unfolding little_endian
returns-in-Length c =
    let bytes : c.to_le_bytes.result ≡ little_endian 8 c.in-Length.n = grind arith in
    appends-reply c.in-Length.is (appends-then c.put_head-body-in-Length.ensures (rw bytes at c.put.ensures))

pub returns-in-Found : goal.returns-in-Found
unfolding little_endian
returns-in-Found c =
    appends-reply c.in-Found.is
    (appends-then c.put_head-body-in-Found.ensures
    (appends-then c.put-key.ensures (appends-then c.put_value-value.ensures c.put_value-in-Found.ensures)))
