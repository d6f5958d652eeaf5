-- `writes::reserve` meets its promise. Assumes nothing.
use mathlib.Core.Path.{refl}
use mathlib.Core.Logic.{inl, inr}
use native.Mathlib.Omega.{arith}
use Rattle.value.specs.Refusals.{no_room}
use Rattle.lent.proofs.Says.{said-yes, said-no}
use Rattle.model.proofs.Kept.{reserve-kept}
use Rattle.store.specs.Store.{store_of}
use Rattle.store.specs.Shape.{Shaped}
use Rattle.store.proofs.Sound.{sound-formed}
use Rattle.writes.specs.Writes.{RoomOnly}
use Rattle.writes.proofs.Promises.{wrong-shape, unchanged, changed}
use Rattle.writes.proofs.Reserving.{few, enough, too_many, dropped}
use Rattle.writes.proofs.reserve.Goals as goal

pub returns-then-not-right_shape : goal.returns-then-not-right_shape
returns-then-not-right_shape c =
    wrong-shape _ (said-no c.right_shape.ensures c.if-not-right_shape.true)

pub returns-then-n-sizes : goal.returns-then-n-sizes
returns-then-n-sizes c =
    let a = c.args in
    let s = store_of a.array.now a.entries.now a.index.now a.sizes in
    let h : Shaped s = said-yes c.right_shape.ensures c.if-not-right_shape.false in
    unchanged s RoomOnly 0 h (inl refl) (λ S. enough s S a.n c.if-n-sizes.true)

pub overflow_sub-room : goal.overflow_sub-room
overflow_sub-room c =
    let a = c.args in
    let shape = said-yes c.right_shape.ensures c.if-not-right_shape.false in
    omega (arith, c.survey-staying.ensures.number, few a.entries.now a.sizes.count a.sizes.size, shape.count_fits, shape.allowance_fits)

pub returns-then-room-staying : goal.returns-then-room-staying
returns-then-room-staying c =
    let a = c.args in
    let s = store_of a.array.now a.entries.now a.index.now a.sizes in
    let h : Shaped s = said-yes c.right_shape.ensures c.if-not-right_shape.false in
    let more = c.if-n-sizes.false in
    unchanged s RoomOnly no_room h (inr refl) (λ S. too_many s S a.n more (omega (arith, c.if-room-staying.true, c.survey-staying.ensures.number)))

pub returns : goal.returns
returns c =
    let a = c.args in
    let s = store_of a.array.now a.entries.now a.index.now a.sizes in
    let h : Shaped s = said-yes c.right_shape.ensures c.if-not-right_shape.false in
    let more = c.if-n-sizes.false in
    changed s _ RoomOnly _ h (inl refl) (λ S. reserve-kept _ _ a.n (sound-formed s S))
    (record { refused = λ r. absurd (r refl); sound = λ S. dropped s S a.n more (omega (arith, c.if-room-staying.false, c.survey-staying.ensures.number)) _ c.rehash-kept.result (c.rehash-kept.ensures.sound S) _ c.max.ensures })
    (λ i. omega (arith, c.type_inv.array i))
    (λ i. omega (arith, c.type_inv.entries i))
