-- What reading a record comes to: more input changes nothing once it is whole; a request lies in the input, and its values decode.
-- Assumes nothing.
use mathlib.Core.Path.{◌≡◌, refl, sym, ap, ◌∙◌}
use mathlib.Core.Bool.{Bool, true, false, ◌&&◌}
use mathlib.Core.List.{List, ◌++◌}
use Prim.Native.Nat.{ℕ, ◌+◌, ◌-◌, ◌≤◌, ◌<◌}
use native.Mathlib.Omega.{arith}
use lib.Dec.{eqb, ltb}
use lib.ListN.{length, take, drop, length-append, length-drop}
use lib.Seq.{take-append-le, drop-append-le}
use borrow.Author.Tests.{eqb-true, leb-true, ltb-true, ltb-false}
use Rattle.std.specs.Prelude.{if◌then◌else◌, Option, None, Some, Result, Ok, Err}
use Rattle.std.specs.Result.{result_map_both}
use Rattle.value.specs.Encoding.{decodes, Decodes}
use Rattle.value.proofs.Cases.{caseb, and_left, and_right}
use Rattle.records.specs.declared.Request.{Request}
use Rattle.records.specs.declared.Request.TheVariants.{Get, Set, Length, Next, Reserve}
use Rattle.records.specs.declared.Fault.{Fault}
use Rattle.records.specs.declared.Fault.TheVariants.{UnknownKind}
use Rattle.records.specs.Bytes.{number, value_in}
use Rattle.records.specs.Requests.{record_size, body_reading, kind_in, body_in, reading, is_whole, ValuesPassed}
use Rattle.records.proofs.Ways.{reads_short, reads-body, whole-body}

-- ---- more input
part_stays : (n at : ℕ) (bs more : List ℕ) → at + n ≤ length bs → take n (drop at (bs ++ more)) ≡ take n (drop at bs)
part_stays n at bs more h =
    ap (take n) (drop-append-le at bs more (omega arith))
    ∙ take-append-le n (drop at bs) more (omega (arith, length-drop at bs))

size-stays : (bs more : List ℕ) → 2 ≤ length bs → record_size (bs ++ more) ≡ record_size bs
size-stays bs more h = ap (λ (l : List ℕ). 2 + number l) (take-append-le 2 bs more h)

whole-two : (bs : List ℕ) → is_whole bs ≡ true → 2 ≤ length bs
unfolding is_whole
whole-two bs w = leb-true 2 (length bs) (and_left _ _ w)

module _ (bs more : List ℕ) (two : 2 ≤ length bs) where
  long-stays : length (bs ++ more) ≡ length bs + length more
  long-stays = length-append bs more

  short-stays : record_size bs < 4 → reading (bs ++ more) ≡ reading bs
  short-stays h =
      reads_short (bs ++ more) (omega (arith, long-stays)) (omega (arith, size-stays bs more two))
      ∙ sym (reads_short bs two h)

  body-stays : 4 ≤ record_size bs → record_size bs ≤ length bs → reading (bs ++ more) ≡ reading bs
  body-stays h g =
      let size = size-stays bs more two in
      let kind : kind_in (bs ++ more) ≡ kind_in bs = ap number (part_stays 2 2 bs more (omega arith)) in
      let body : body_in (bs ++ more) ≡ body_in bs =
      ap (λ (n : ℕ). take (n - 4) (drop 4 (bs ++ more))) size ∙ part_stays (record_size bs - 4) 4 bs more (omega arith) in
      reads-body (bs ++ more) (omega (arith, long-stays)) (omega arith) (omega (arith, long-stays)) ∙ rw (kind, body) (sym (reads-body bs two h g))

pub whole-stays : (bs more : List ℕ) → is_whole bs ≡ true → (reading (bs ++ more) ≡ reading bs) × (record_size (bs ++ more) ≡ record_size bs)
whole-stays bs more w =
    let two : 2 ≤ length bs = whole-two bs w in
    let read : reading (bs ++ more) ≡ reading bs =
    caseb (ltb (record_size bs) 4)
    (λ t. short-stays bs more two (ltb-true (record_size bs) 4 t))
    (λ t. let h : 4 ≤ record_size bs = ltb-false (record_size bs) 4 t in
    body-stays bs more two h (leb-true (record_size bs) (length bs) (sym (whole-body bs two h) ∙ w))) in
    (read, size-stays bs more two)

-- ---- what was read, where no test on the way found a fault
passed : {X : Type 0} (b : Bool) (r : Result X Fault) (f : Fault) (x : X) → (if b then r else Err f) ≡ Ok x → (b ≡ true) × (r ≡ Ok x)
passed true r f x e = (refl, e)
passed false r f x e = cc

failed : {X : Type 0} (b : Bool) (r : Result X Fault) (f : Fault) (x : X) → (if b then Err f else r) ≡ Ok x → (b ≡ false) × (r ≡ Ok x)
failed true r f x e = cc
failed false r f x e = (refl, e)

begun : (b : Bool) (r : Result (Option Request) Fault) (q : Request) → (if b then Ok None else r) ≡ Ok (Some q) → (b ≡ false) × (r ≡ Ok (Some q))
begun true r q e = cc
begun false r q e = (refl, e)

asked_for : (r : Result Request Fault) (q : Request) → result_map_both Some (λ f. f) r ≡ Ok (Some q) → r ≡ Ok q
asked_for (Ok p) q e = cc
asked_for (Err f) q e = cc

-- a request's record: its kind, and a body of the kind's length
pub record Asked (bs : List ℕ) (q : Request) : Type 0 where
  pub long : 4 ≤ record_size bs
  pub fits : record_size bs ≤ length bs
  pub body : body_reading (kind_in bs) (body_in bs) ≡ Ok q

pub asked : (bs : List ℕ) (q : Request) → reading bs ≡ Ok (Some q) → Asked bs q
unfolding reading
asked bs q r =
    let some = begun (eqb (length bs) 0) _ _ r in
    let two = failed (eqb (length bs) 1) _ _ _ some.1 in
    let long = failed (ltb (record_size bs) 4) _ _ _ two.1 in
    let fits = failed (ltb (length bs) (record_size bs)) _ _ _ long.1 in
    record {
      long = ltb-false (record_size bs) 4 long.0;
      fits = ltb-false (length bs) (record_size bs) fits.0;
      body = asked_for (body_reading (kind_in bs) (body_in bs)) q fits.1;
    }

-- what a body can be read as
pub data Formed (bs : List ℕ) : ℕ → Request → Type 0 where
  is_get : length bs ≡ 9 → Decodes (value_in 0 bs) → Formed bs 1 (Get (value_in 0 bs))
  is_set : length bs ≡ 18 → Decodes (value_in 0 bs) → Decodes (value_in 9 bs) → Formed bs 2 (Set (value_in 0 bs) (value_in 9 bs))
  is-length : length bs ≡ 0 → Formed bs 3 Length
  is-next : length bs ≡ 9 → Decodes (value_in 0 bs) → Formed bs 4 (Next (value_in 0 bs))
  is-reserve : length bs ≡ 4 → Formed bs 5 (Reserve (number bs))

module _ (bs : List ℕ) (q : Request) where
  form-get : body_reading 1 bs ≡ Ok q → Formed bs 1 q
  form-get r =
      let l = passed (eqb (length bs) 9) _ _ _ r in
      let d = passed (decodes (value_in 0 bs)) _ _ _ l.1 in
      let e : Get (value_in 0 bs) ≡ q = (cc d.1) in
      rw (← e) (is_get (eqb-true (length bs) 9 l.0) d.0)

  form-set : body_reading 2 bs ≡ Ok q → Formed bs 2 q
  form-set r =
      let l = passed (eqb (length bs) 18) _ _ _ r in
      let d = passed (decodes (value_in 0 bs) && decodes (value_in 9 bs)) _ _ _ l.1 in
      let e : Set (value_in 0 bs) (value_in 9 bs) ≡ q = (cc d.1) in
      rw (← e) (is_set (eqb-true (length bs) 18 l.0) (and_left _ _ d.0) (and_right _ _ d.0))

  form-length : body_reading 3 bs ≡ Ok q → Formed bs 3 q
  form-length r =
      let l = passed (eqb (length bs) 0) _ _ _ r in
      let e : Length ≡ q = (cc l.1) in
      rw (← e) (is-length (eqb-true (length bs) 0 l.0))

  form-next : body_reading 4 bs ≡ Ok q → Formed bs 4 q
  form-next r =
      let l = passed (eqb (length bs) 9) _ _ _ r in
      let d = passed (decodes (value_in 0 bs)) _ _ _ l.1 in
      let e : Next (value_in 0 bs) ≡ q = (cc d.1) in
      rw (← e) (is-next (eqb-true (length bs) 9 l.0) d.0)

  form-reserve : body_reading 5 bs ≡ Ok q → Formed bs 5 q
  form-reserve r =
      let l = passed (eqb (length bs) 4) _ _ _ r in
      let e : Reserve (number bs) ≡ q = (cc l.1) in
      rw (← e) (is-reserve (eqb-true (length bs) 4 l.0))

pub formed : (k : ℕ) (bs : List ℕ) (q : Request) → body_reading k bs ≡ Ok q → Formed bs k q
formed k bs q =
    caseb (eqb k 1) (λ t. rw (eqb-true k 1 t) (form-get bs q)) λ a.
    caseb (eqb k 2) (λ t. rw (eqb-true k 2 t) (form-set bs q)) λ b.
    caseb (eqb k 3) (λ t. rw (eqb-true k 3 t) (form-length bs q)) λ c.
    caseb (eqb k 4) (λ t. rw (eqb-true k 4 t) (form-next bs q)) λ d.
    caseb (eqb k 5) (λ t. rw (eqb-true k 5 t) (form-reserve bs q)) λ e r.
    let n : body_reading k bs ≡ Err UnknownKind = rw (a, b, c, d, e) in cc

-- ---- what the table and the trace rely on
pub request-fits : (bs : List ℕ) (q : Request) → reading bs ≡ Ok (Some q) → (4 ≤ record_size bs) × (record_size bs ≤ length bs)
request-fits bs q r = let a = asked bs q r in (a.long, a.fits)

decoded : (k : ℕ) (bs : List ℕ) (q : Request) → Formed bs k q → ValuesPassed q
decoded k bs q (is_get l d) = d
decoded k bs q (is_set l d e) = (d, e)
decoded k bs q (is-length l) = tt
decoded k bs q (is-next l d) = d
decoded k bs q (is-reserve l) = tt

pub request-decodes : (bs : List ℕ) (q : Request) → reading bs ≡ Ok (Some q) → ValuesPassed q
request-decodes bs q r = decoded (kind_in bs) (body_in bs) q (formed (kind_in bs) (body_in bs) q (asked bs q r).body)
