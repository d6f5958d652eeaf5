-- `index::search` meets its contract. Assumes nothing.
use Rattle.std.proofs.Common.{◌≡◌, ◌-◌, false, length, get_or, sym, ap, ◌∙◌, arith}
use Rattle.value.specs.declared.Words.{Words}
use Rattle.value.specs.Same.{same}
use Rattle.index.specs.Search.{hits, stops}
use Rattle.index.proofs.Climb.{going_start}
use Rattle.index.proofs.Searches.{hit_same, hit-past, search-empty, search-hit, search-turn, search-full}
use Rattle.index.proofs.search.Goals as goal
use Rattle.index.proofs.search.Goals.{else-i-entries-via-then-i-entries+else-eq, else-i-entries-via-else-i-entries}

pub loop-init : goal.loop-init
loop-init c =
    let a = c.args in
    let e = a.entries.now in
    let home = c.home_of-j.ensures in
    rw (← home.1) (going_start (stops (hits e.words.now e.count a.key)) (length a.index.now) a.index.now c.home_of-j.result home.0)

pub returns-then-w-eq0 : goal.returns-then-w-eq0
returns-then-w-eq0 c =
    let a = c.args in
    let e = a.entries.now in
    let t = search-empty e.words.now e.count a.index.now a.key c.loop.counter c.loop.j c.loop.invariant (omega arith) c.if-w-eq0.true in
    record { any = t.0; safe = t.1.0; right = t.1.1 }

pub returns-then-eq : goal.returns-then-eq
unfolding same
returns-then-eq c =
    let a = c.args in
    let e = a.entries.now in
    let hit =
    hit_same e.words.now e.count a.key _ c.if-i-entries.true
    ∙ ap (λ (w : Words). same w a.key) (sym c.key.ensures)
    ∙ sym c.eq.ensures
    ∙ c.if-eq.true
    in
    let t = search-hit e.words.now e.count a.index.now a.key c.loop.counter c.loop.j c.loop.invariant (omega arith) c.if-w-eq0.false hit in
    record { any = t.0; safe = t.1.0; right = t.1.1 }

pub loop-preserved : goal.loop-preserved
unfolding same
loop-preserved c =
    let a = c.args in
    let e = a.entries.now in
    let miss : hits e.words.now e.count a.key (get_or a.index.now c.loop.j 0 - 1) ≡ false =
    elim c.else-i-entries.branch [
      | else-i-entries-via-then-i-entries+else-eq w ↦ hit_same e.words.now e.count a.key _ w.if-i-entries.true
          ∙ ap (λ (x : Words). same x a.key) (sym w.key.ensures)
          ∙ sym w.eq.ensures
          ∙ w.if-eq.false
      | else-i-entries-via-else-i-entries w ↦ hit-past e.words.now e.count a.key _ w.if-i-entries.false
    ]
    in
    rw c.next_place-j.ensures.1
    (search-turn e.words.now e.count a.index.now a.key c.loop.counter c.loop.j c.loop.invariant (omega arith) c.if-w-eq0.false miss)

pub returns : goal.returns
returns c =
    let a = c.args in
    let e = a.entries.now in
    let t = search-full e.words.now e.count a.index.now a.key c.loop.counter c.loop.j c.loop.invariant (omega arith) in
    record { any = t.0; safe = t.1.0; right = t.1.1 }
