-- A turn: there is room to read, what was read lies in the slice after what is held, what is handed on is what was made, and what is left is
-- less than a record. Assumes nothing.
use mathlib.Core.Path.{◌≡◌}
use mathlib.Core.List.{List}
use Prim.Native.Nat.{ℕ, ◌+◌, ◌*◌, ◌-◌, ◌<◌, ◌≤◌}
use native.Mathlib.Omega.{arith}
use lib.Dec.{eqb}
use lib.ListN.{length, take, drop, length-take, length-drop}
use lib.Seq.{length-take-le}
use borrow.Author.Tests.{eqb-false}
use borrow.Rule.Slice.PartMut.{put_mid, same_len_mid, take_put}
use Rattle.store.specs.Store.{Slices, Store, store}
use Rattle.store.specs.Written.{Sound}
use Rattle.records.specs.Bytes.{AllBytes}
use Rattle.records.specs.Requests.{longest_record}
use Rattle.records.proofs.Numbers.{take-bytes}
use Rattle.replies.specs.Replies.{longest}
use Rattle.session.specs.declared.Progress.{Progress}
use Rattle.session.specs.Served.{Further, ServedInto, Waits}
use Rattle.session.proofs.Waiting.{leaves-short}
use Rattle.session.proofs.Turns.{left_of, written-fits}
use Rattle.trace.specs.Rooms.{input_room, output_room}
use Rattle.trace.specs.Turn.{Answered}

-- the input after what was lent to be read into came back as this
abbrev pub with_left : ℕ → List ℕ → List ℕ → List ℕ
with_left held was left = put_mid held (length was - held) was left

module _ {s : Store} {a : Slices} {output₀ output : List ℕ} {r : Progress} (was left : List ℕ) (held got : ℕ) where
  pub turn-answers : Sound s → AllBytes (with_left held was left) → (held < longest_record) × (input_room ≡ length was) × (output_room ≡ length output₀)
      → length left ≡ length (left_of held was) → got ≤ length left
      → ServedInto s a (Further (eqb got 0)) (take (held + got) (with_left held was left)) output₀ 0 output r
      → Waits s (take (held + got) (with_left held was left)) (eqb got 0) output₀ r
      → Answered s (store a r.sizes) was held (with_left held was left) output (record { got = got; progress = r })
  turn-answers S b rooms same g p w =
      let input : List ℕ = take (held + got) (with_left held was left) in
      let fits : held ≤ length was = omega (arith, rooms.0, rooms.1) in
      let part : length left ≡ length was - held = omega (arith, same, length-take (length was - held) (drop held was), length-drop held was) in
      let long : length (with_left held was left) ≡ length was = same_len_mid held (length was - held) was left same in
      let come : length input ≡ held + got = length-take-le (held + got) (with_left held was left) (omega arith) in
      let room : 3 * length input + longest ≤ length output₀ = omega (arith, rooms.1, rooms.2) in
      record {
        holds = take_put held (length was - held) was left fits;
        came = omega arith;
        made = written-fits p.1;
        served = rw p.1.holds p.2;
        waits = λ f. let left = w S room f in let some : got ≡ 0 → ⊥ = eqb-false got 0 left.0 in (omega (arith, some), left.1);
        short =
            λ f.
            let less = leaves-short input output₀ (eqb got 0) r (take-bytes (held + got) (with_left held was left) b) S room w f in
            omega (arith, less, come);
      }
