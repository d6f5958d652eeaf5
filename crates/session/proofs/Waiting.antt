-- How long replies are: on a sound store at most three times the bytes of their records (a length's 12 for 4); and how much input can wait.
-- Assumes nothing.
use mathlib.Core.Path.{◌≡◌, sym, ◌∙◌}
use mathlib.Core.Bool.{Bool, false}
use mathlib.Core.List.{List}
use Prim.Native.Nat.{ℕ, ◌+◌, ◌*◌, ◌-◌, ◌<◌, ◌≤◌}
use native.Mathlib.Omega.{arith}
use lib.Dec.{ltb}
use lib.ListN.{length, drop, length-append, length-drop}
use lib.Seq.{length-take-le}
use borrow.Author.Tests.{leb-false, ltb-true, ltb-false}
use Rattle.std.specs.Prelude.{Some, Ok}
use Rattle.value.proofs.Cases.{caseb, clash}
use Rattle.model.specs.Entries.{NextValue, found, last, not_found}
use Rattle.model.specs.Table.{Room, Table, next_of}
use Rattle.store.specs.Store.{Store}
use Rattle.store.specs.Written.{Sound}
use Rattle.reads.specs.Reads.{in_words}
use Rattle.records.specs.declared.Request.{Request}
use Rattle.records.specs.Bytes.{AllBytes, value_in}
use Rattle.records.specs.Requests.{record_size, longest_record, kind_in, body_in, reading, is_whole}
use Rattle.records.proofs.Numbers.{length-bytes, drop-bytes, number-part}
use Rattle.records.proofs.Ways.{whole-short, whole-body}
use Rattle.records.proofs.Readings.{asked, formed, Formed, is_get, is_set, is-length, is-next, is-reserve}
use Rattle.replies.specs.Replies.{reply_bytes, longest}
use Rattle.answers.specs.Answers.{next_reply, reply_of}
use Rattle.session.specs.declared.Progress.{Progress}
use Rattle.session.specs.Served.{Waits}

-- ---- a reply by its request
short-step : (a : NextValue) → length (reply_bytes (next_reply (in_words a))) ≤ 39
short-step (found k v) = simp (length-append, length-bytes) (omega arith)
short-step last = simp (length-append, length-bytes) (omega arith)
short-step not_found = simp (length-append, length-bytes) (omega arith)

module _ (room : Room) (t : Table) where
  short-body : (k : ℕ) (bs : List ℕ) (q : Request) → Formed bs k q → length (reply_bytes (reply_of room t q)) ≤ 3 * (4 + length bs)
  short-body k bs q (is_get l d) = simp (length-append, length-bytes) (omega arith)
  short-body k bs q (is_set l d e) = simp (length-append, length-bytes) (omega arith)
  short-body k bs q (is-length l) = simp (length-append, length-bytes) (omega arith)
  short-body k bs q (is-next l d) = omega (arith, short-step (next_of t (value_in 0 bs)))
  short-body k bs q (is-reserve l) = simp (length-append, length-bytes) (omega arith)

  pub reply-short : (bs : List ℕ) (q : Request) → reading bs ≡ Ok (Some q) → length (reply_bytes (reply_of room t q)) ≤ 3 * record_size bs
  reply-short bs q r =
      let a = asked bs q r in
      let rest : length (body_in bs) ≡ record_size bs - 4 =
      length-take-le (record_size bs - 4) (drop 4 bs) (omega (arith, length-drop 4 bs, a.fits)) in
      omega (arith, rest, a.long, short-body (kind_in bs) (body_in bs) q (formed (kind_in bs) (body_in bs) q a.body))

-- ---- what is left
-- input that waits for the rest of its record is shorter than the longest record
pub cut_short : (bs : List ℕ) → AllBytes bs → is_whole bs ≡ false → length bs < longest_record
cut_short bs h w =
    caseb (ltb (length bs) 2) (λ t. omega (arith, ltb-true (length bs) 2 t)) λ t.
    let two : 2 ≤ length bs = ltb-false (length bs) 2 t in
    caseb (ltb (record_size bs) 4) (λ u. clash (whole-short bs two (ltb-true (record_size bs) 4 u)) w) λ u.
    let cut : length bs < record_size bs =
    leb-false (record_size bs) (length bs) (sym (whole-body bs two (ltb-false (record_size bs) 4 u)) ∙ w) in
    omega (arith, cut, number-part 2 0 bs h)

pub leaves-short : {s : Store} (input output : List ℕ) (ended : Bool) (r : Progress) → AllBytes input → Sound s → 3 * length input + longest ≤ length output
    → Waits s input ended output r → r.stopped ≡ false → length input - r.taken < longest_record
leaves-short input output ended r h S room w f =
    omega (arith, length-drop r.taken input, cut_short (drop r.taken input) (drop-bytes r.taken input h) (w S room f).1)
