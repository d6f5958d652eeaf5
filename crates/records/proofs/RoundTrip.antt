-- A request's bytes are read as that request, whatever follows; and bytes that are read as a request are its bytes. Assumes nothing.
use mathlib.Core.Path.{◌≡◌, refl, sym, ap, ap₂, ◌∙◌}
use mathlib.Core.List.{List, [], ◌++◌, append_assoc, append-nil}
use Prim.Native.Nat.{ℕ, ◌+◌, ◌-◌, ◌^◌, ◌≤◌, ◌<◌}
use native.Mathlib.Omega.{arith}
use lib.ListN.{length, take, drop, length-append, length-drop}
use borrow.Author.Tests.{eq-eqb}
use lib.Seq.{take_all, take_at, drop_at, take-add, drop-drop, length-take-le}
use Rattle.std.specs.Prelude.{Some, Ok}
use Rattle.std.specs.Result.{result_map_both}
use Rattle.value.specs.declared.Words.{Words}
use Rattle.value.specs.declared.Function.{Function}
use Rattle.value.specs.declared.Function.TheVariants.{Closure, Callback}
use Rattle.value.specs.declared.Value.{Value}
use Rattle.value.specs.declared.Value.TheVariants.{Nil, Boolean, Integer, Number, NaN, String, Table, Function as FunctionValue, Thread, UserData}
use Rattle.value.specs.Encoding.{words, function_kind, kind_of, value_of, Decodes}
use Rattle.value.proofs.RoundTrip.{read-stored, value_read as value-decoded}
use Rattle.records.specs.declared.Request.{Request}
use Rattle.records.specs.declared.Request.TheVariants.{Get, Set, Length, Next, Reserve}
use Rattle.records.specs.Bytes.{AllBytes, number, little_endian, value_bytes, value_in, head_bytes, framed}
use Rattle.records.specs.Requests.{record_size, kind_in, body_in, body_reading, reading, request_bytes, Sendable, InTrace}
use Rattle.records.proofs.Numbers.{length-bytes, length-value, length-head, number-bytes, bytes-number, number-below, take-bytes, drop-bytes, number-part}
use Rattle.records.proofs.Ways.{reads-body}
use Rattle.records.proofs.Readings.{asked, Formed, formed, is_get, is_set, is-length, is-next, is-reserve}

-- ---- numbers and values
-- a value's kind is below 10, so its byte is its number
function-kind : (f : Function) → function_kind f < 10
function-kind (Closure h) = omega arith
function-kind (Callback h) = omega arith

kind-below : (v : Value) → kind_of v < 10
kind-below Nil = omega arith
kind-below (Boolean b) = omega arith
kind-below (Integer n) = omega arith
kind-below (Number x) = omega arith
kind-below (NaN b) = omega arith
kind-below (String h) = omega arith
kind-below (Table h) = omega arith
kind-below (FunctionValue f) = function-kind f
kind-below (Thread h) = omega arith
kind-below (UserData h) = omega arith

kind-small : (w : Words) → Sendable w → w.kind < 256
kind-small w s =
    let e = ap (λ (x : Words). x.kind) (read-stored w (value_of w) s.1 (value-decoded w s.0)) in
    omega (arith, e, kind-below (value_of w))

-- bytes in front, then a number's, then others
number-after : (at k n : ℕ) (front rest : List ℕ) → length front ≡ at → n < 256 ^ k → number (take k (drop at (front ++ (little_endian k n ++ rest)))) ≡ n
number-after at k n front rest l h =
    ap (λ (bs : List ℕ). number (take k bs)) (drop_at front (little_endian k n ++ rest) at l)
    ∙ ap number (take_at (little_endian k n) rest k (length-bytes k n))
    ∙ number-bytes k n h

value_after : (at : ℕ) (w : Words) (front rest : List ℕ) → length front ≡ at → Sendable w → value_in at (front ++ (value_bytes w ++ rest)) ≡ w
value_after at w front rest l s =
    let kind : List ℕ = little_endian 1 w.kind in
    let payload : List ℕ = little_endian 8 w.payload in
    let regroup : front ++ (value_bytes w ++ rest) ≡ (front ++ kind) ++ (payload ++ rest) = simp append_assoc in
    let more : length (front ++ kind) ≡ at + 1 = omega (arith, length-append front kind, length-bytes 1 w.kind) in
    let p : number (take 1 (drop at (front ++ (value_bytes w ++ rest)))) ≡ w.kind =
    rw (append_assoc kind payload rest) (number-after at 1 w.kind front (payload ++ rest) l (kind-small w s)) in
    let q : number (take 8 (drop (at + 1) (front ++ (value_bytes w ++ rest)))) ≡ w.payload =
    rw regroup (number-after (at + 1) 8 w.payload (front ++ kind) rest more s.1) in
    λ i. words (p i) (q i)

pub value_read : (w : Words) (rest : List ℕ) → Sendable w → value_in 0 (value_bytes w ++ rest) ≡ w
value_read w rest s = value_after 0 w [] rest refl s

part_bytes : (n at : ℕ) (bs : List ℕ) → AllBytes bs → at + n ≤ length bs → little_endian n (number (take n (drop at bs))) ≡ take n (drop at bs)
part_bytes n at bs h l =
    let part : List ℕ = take n (drop at bs) in
    let long : length part ≡ n = length-take-le n (drop at bs) (omega (arith, length-drop at bs)) in
    ap (λ (m : ℕ). little_endian m (number part)) (sym long) ∙ bytes-number part (take-bytes n (drop at bs) (drop-bytes at bs h))

part-split : (n m at : ℕ) (bs : List ℕ) → take n (drop at bs) ++ take m (drop (at + n) bs) ≡ take (n + m) (drop at bs)
part-split n m at bs = ap (λ (l : List ℕ). take n (drop at bs) ++ take m l) (sym (drop-drop n at bs)) ∙ sym (take-add n m (drop at bs))

value-part : (at : ℕ) (bs : List ℕ) → AllBytes bs → at + 9 ≤ length bs → value_bytes (value_in at bs) ≡ take 9 (drop at bs)
value-part at bs h l =
    ap₂ ◌++◌ (part_bytes 1 at bs h (omega arith)) (part_bytes 8 (at + 1) bs h (omega arith)) ∙ part-split 1 8 at bs

pub read-value : (bs : List ℕ) → AllBytes bs → 9 ≤ length bs → value_bytes (value_in 0 bs) ≡ take 9 bs
read-value bs h l = value-part 0 bs h l

-- ---- a record
module _ (k : ℕ) (body rest : List ℕ) where
  length-frame : length (framed k body) ≡ 4 + length body
  length-frame = omega (arith, length-append (head_bytes (length body) k) body, length-head (length body) k)

  opened : framed k body ++ rest ≡ head_bytes (length body) k ++ (body ++ rest)
  opened = append_assoc (head_bytes (length body) k) body rest

  parted : framed k body ++ rest ≡ little_endian 2 (2 + length body) ++ (little_endian 2 k ++ (body ++ rest))
  parted = opened ∙ append_assoc (little_endian 2 (2 + length body)) (little_endian 2 k) (body ++ rest)

  frame-size : 2 + length body < 256 ^ 2 → record_size (framed k body ++ rest) ≡ 4 + length body
  frame-size h =
      let n : ℕ = 2 + length body in
      let e = ap (λ (bs : List ℕ). number (take 2 bs)) parted ∙ number-after 0 2 n [] (little_endian 2 k ++ (body ++ rest)) refl h in
      omega (arith, e)

  frame-kind : k < 256 ^ 2 → kind_in (framed k body ++ rest) ≡ k
  frame-kind h =
      let n : ℕ = 2 + length body in
      ap kind_in parted ∙ number-after 2 2 k (little_endian 2 n) (body ++ rest) (length-bytes 2 n) h

  frame-body : 2 + length body < 256 ^ 2 → body_in (framed k body ++ rest) ≡ body
  frame-body h =
      let size : record_size (framed k body ++ rest) - 4 ≡ length body = omega (arith, frame-size h) in
      ap₂ (λ (n : ℕ) (bs : List ℕ). take n (drop 4 bs)) size opened
      ∙ ap (take (length body)) (drop_at (head_bytes (length body) k) (body ++ rest) 4 (length-head (length body) k))
      ∙ take_at body rest (length body) refl

  frame-read : 2 + length body < 256 ^ 2 → k < 256 ^ 2 → reading (framed k body ++ rest) ≡ result_map_both Some (λ f. f) (body_reading k body)
  frame-read h g =
      let bs : List ℕ = framed k body ++ rest in
      let size : record_size bs ≡ 4 + length body = frame-size h in
      let long : length bs ≡ 4 + length body + length rest = omega (arith, length-append (framed k body) rest, length-frame) in
      reads-body bs (omega arith) (omega arith) (omega arith) ∙ rw (frame-kind g, frame-body h)

  framed-reads : (q : Request) → 2 + length body < 256 ^ 2 → k < 256 ^ 2 → body_reading k body ≡ Ok q
      → (reading (framed k body ++ rest) ≡ Ok (Some q)) × (record_size (framed k body ++ rest) ≡ length (framed k body))
  framed-reads q h g r = (frame-read h g ∙ rw r, frame-size h ∙ sym length-frame)

-- ---- a request's body
value-alone : (w : Words) → Sendable w → value_in 0 (value_bytes w) ≡ w
value-alone w s = ap (value_in 0) (sym (append-nil (value_bytes w))) ∙ value_read w [] s

get-read : (w : Words) → Sendable w → body_reading 1 (value_bytes w) ≡ Ok (Get w)
get-read w s = rw (eq-eqb (length (value_bytes w)) 9 (length-value w), value-alone w s, s.0)

next-read : (w : Words) → Sendable w → body_reading 4 (value_bytes w) ≡ Ok (Next w)
next-read w s = rw (eq-eqb (length (value_bytes w)) 9 (length-value w), value-alone w s, s.0)

length_two : (k v : Words) → length (value_bytes k ++ value_bytes v) ≡ 18
length_two k v = omega (arith, length-append (value_bytes k) (value_bytes v), length-value k, length-value v)

set-read : (k v : Words) → Sendable k → Sendable v → body_reading 2 (value_bytes k ++ value_bytes v) ≡ Ok (Set k v)
set-read k v s t =
    let body : List ℕ = value_bytes k ++ value_bytes v in
    let second : value_in 9 body ≡ v = rw (append-nil (value_bytes v)) at (value_after 9 v (value_bytes k) [] (length-value k) t) in
    rw (eq-eqb (length body) 18 (length_two k v), value_read k (value_bytes v) s, second, s.0, t.0)

reserve-read : (n : ℕ) → n < 2 ^ 32 → body_reading 5 (little_endian 4 n) ≡ Ok (Reserve n)
reserve-read n h = rw (eq-eqb (length (little_endian 4 n)) 4 (length-bytes 4 n), number-bytes 4 n h)

pub request-read : (q : Request) (rest : List ℕ) → InTrace q
    → (reading (request_bytes q ++ rest) ≡ Ok (Some q)) × (record_size (request_bytes q ++ rest) ≡ length (request_bytes q))
request-read (Get w) rest s = framed-reads 1 (value_bytes w) rest (Get w) (omega (arith, length-value w)) (omega arith) (get-read w s)
request-read (Set k v) rest s =
    framed-reads 2 (value_bytes k ++ value_bytes v) rest (Set k v) (omega (arith, length_two k v)) (omega arith) (set-read k v s.0 s.1)
request-read Length rest s = framed-reads 3 [] rest Length (omega arith) (omega arith) refl
request-read (Next w) rest s = framed-reads 4 (value_bytes w) rest (Next w) (omega (arith, length-value w)) (omega arith) (next-read w s)
request-read (Reserve n) rest s =
    framed-reads 5 (little_endian 4 n) rest (Reserve n) (omega (arith, length-bytes 4 n)) (omega arith) (reserve-read n s)

-- ---- and back
sendable-in : (at : ℕ) (bs : List ℕ) → AllBytes bs → Decodes (value_in at bs) → Sendable (value_in at bs)
sendable-in at bs h d = (d, number-part 8 (at + 1) bs h)

value-whole : (bs : List ℕ) → AllBytes bs → length bs ≡ 9 → bs ≡ value_bytes (value_in 0 bs)
value-whole bs h l = sym (read-value bs h (omega arith) ∙ take_all 9 bs (omega arith))

values-whole : (bs : List ℕ) → AllBytes bs → length bs ≡ 18 → bs ≡ value_bytes (value_in 0 bs) ++ value_bytes (value_in 9 bs)
values-whole bs h l =
    sym
    (ap₂ ◌++◌ (value-part 0 bs h (omega arith)) (value-part 9 bs h (omega arith)) ∙ part-split 9 9 0 bs ∙ take_all 18 bs (omega arith))

number-whole : (bs : List ℕ) → AllBytes bs → length bs ≡ 4 → bs ≡ little_endian 4 (number bs)
number-whole bs h l = sym (ap (λ (n : ℕ). little_endian n (number bs)) (sym l) ∙ bytes-number bs h)

formed-bytes : (k : ℕ) (bs : List ℕ) (q : Request) → AllBytes bs → Formed bs k q → InTrace q × (framed k bs ≡ request_bytes q)
formed-bytes k bs q h (is_get l d) = (sendable-in 0 bs h d, ap (framed 1) (value-whole bs h l))
formed-bytes k bs q h (is_set l d e) = ((sendable-in 0 bs h d, sendable-in 9 bs h e), ap (framed 2) (values-whole bs h l))
formed-bytes k bs q h (is-length l) = (tt, ap (framed 3) (sym (take_all 0 bs (omega arith))))
formed-bytes k bs q h (is-next l d) = (sendable-in 0 bs h d, ap (framed 4) (value-whole bs h l))
formed-bytes k bs q h (is-reserve l) = (number-below 4 bs h (omega arith), ap (framed 5) (number-whole bs h l))

frame-bytes : (bs : List ℕ) → AllBytes bs → 4 ≤ record_size bs → record_size bs ≤ length bs → framed (kind_in bs) (body_in bs) ≡ take (record_size bs) bs
frame-bytes bs h l f =
    let n : ℕ = record_size bs - 4 in
    let long : length (body_in bs) ≡ n = length-take-le n (drop 4 bs) (omega (arith, length-drop 4 bs)) in
    let said : 2 + length (body_in bs) ≡ number (take 2 bs) = omega arith in
    let all : 4 + n ≡ record_size bs = omega arith in
    let size : little_endian 2 (2 + length (body_in bs)) ≡ take 2 bs = ap (little_endian 2) said ∙ part_bytes 2 0 bs h (omega arith) in
    let kind : little_endian 2 (kind_in bs) ≡ take 2 (drop 2 bs) = part_bytes 2 2 bs h (omega arith) in
    ap (λ (head : List ℕ). head ++ body_in bs) (ap₂ ◌++◌ size kind ∙ part-split 2 2 0 bs)
    ∙ part-split 4 n 0 bs
    ∙ ap (λ (m : ℕ). take m bs) all

pub read-request : (bs : List ℕ) (q : Request) → AllBytes bs → reading bs ≡ Ok (Some q) → InTrace q × (take (record_size bs) bs ≡ request_bytes q)
read-request bs q h r =
    let a = asked bs q r in
    let body = take-bytes (record_size bs - 4) (drop 4 bs) (drop-bytes 4 bs h) in
    let f = formed-bytes (kind_in bs) (body_in bs) q body (formed (kind_in bs) (body_in bs) q a.body) in
    (f.0, sym (frame-bytes bs h a.long a.fits) ∙ f.1)
