-- `index::is_inserted` meets its contract. Assumes nothing.
use Rattle.std.proofs.Common.{sym, refl, ◌∙◌, arith, ne_eqb, rules}
use Rattle.lent.proofs.Says.{says-no, says_same, says_all}
use Rattle.index.proofs.Seats.{InSeat, inserted-used, inserted-seat, seats-inserted}
use Rattle.index.proofs.is_inserted.Goals as goal

pub returns-then-used_words-entries : goal.returns-then-used_words-entries
returns-then-used_words-entries c =
    let a = c.args in
    let e = a.entries.now in
    let ws = e.words.now in
    let l = a.index.now in
    says_same (seats-inserted ws l e.count (sym c.used_words.ensures ∙ c.if-used_words-entries.true)) (inserted-seat ws l e.count (omega arith))
    (says_all e.count (InSeat ws l) c.all.ensures.ran refl (λ i b q k. search rules))

pub returns-else-used_words-entries : goal.returns-else-used_words-entries
returns-else-used_words-entries c =
    let a = c.args in
    let e = a.entries.now in
    let other = c.if-used_words-entries.false in
    rw (ne_eqb c.used_words.result e.count other)
    (says-no (λ p. other (c.used_words.ensures ∙ inserted-used e.words.now a.index.now e.count (omega arith) p)))
