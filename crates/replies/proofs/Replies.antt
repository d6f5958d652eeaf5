-- Replies as bytes: none is longer than `longest`, and they can be taken apart in one way only, since a reader gives each reply back.
-- Assumes nothing.
use mathlib.Core.Path.{◌≡◌, refl, sym, ap, ◌∙◌}
use mathlib.Core.Bool.{cond}
use mathlib.Core.List.{List, ◌++◌}
use Prim.Native.Nat.{ℕ, ◌≤◌}
use native.Mathlib.Omega.{arith}
use lib.Dec.{eqb}
use lib.ListN.{length, take, drop, length-append}
use lib.Seq.{drop-append_seam}
use Rattle.value.specs.declared.Words.{Words}
use Rattle.value.specs.Encoding.{words}
use Rattle.records.specs.Bytes.{number, little_endian, value_in}
use Rattle.records.specs.Requests.{kind_in}
use Rattle.records.proofs.Numbers.{length-bytes, number-bytes}
use Rattle.replies.specs.declared.Reply.{Reply}
use Rattle.replies.specs.declared.Reply.TheVariants.{Got, Set, Length, Found, Last, NotFound, Reserved, Fault}
use Rattle.replies.specs.Replies.{longest, reply_bytes, FitWords, Fits}

pub reply-length : (r : Reply) → length (reply_bytes r) ≤ longest
reply-length (Got v) = simp (length-append, length-bytes) (omega arith)
reply-length (Set n v) = simp (length-append, length-bytes) (omega arith)
reply-length (Length n) = simp (length-append, length-bytes) (omega arith)
reply-length (Found k v) = simp (length-append, length-bytes) (omega arith)
reply-length Last = simp (length-append, length-bytes) (omega arith)
reply-length NotFound = simp (length-append, length-bytes) (omega arith)
reply-length (Reserved n) = simp (length-append, length-bytes) (omega arith)
reply-length (Fault n) = simp (length-append, length-bytes) (omega arith)

-- ---- read back
-- the reply that bytes begin with
reply_in : List ℕ → Reply
reply_in bs =
    let kind = kind_in bs in
    let byte = number (take 1 (drop 4 bs)) in
    cond (eqb kind 257) (Got (value_in 4 bs))
    (cond (eqb kind 258) (Set byte (value_in 5 bs))
    (cond (eqb kind 259) (Length (number (take 8 (drop 4 bs))))
    (cond (eqb kind 260) (cond (eqb byte 0) (Found (value_in 5 bs) (value_in 14 bs)) (cond (eqb byte 1) Last NotFound))
    (cond (eqb kind 261) (Reserved byte) (Fault byte)))))

value-back : (v : Words) → FitWords v → words (number (little_endian 1 v.kind)) (number (little_endian 8 v.payload)) ≡ v
value-back v f =
    let k = number-bytes 1 v.kind f.0 in
    let p = number-bytes 8 v.payload f.1 in
    λ i. words (k i) (p i)

reply-back : (r : Reply) (x : List ℕ) → Fits r → reply_in (reply_bytes r ++ x) ≡ r
unfolding number little_endian reply_in
reply-back (Got v) x f = ap Got (value-back v f)
reply-back (Set n v) x f = let p = number-bytes 1 n f.0 in let q = value-back v f.1 in λ i. Set (p i) (q i)
reply-back (Length n) x f = ap Length (number-bytes 8 n f)
reply-back (Found k v) x f = let p = value-back k f.0 in let q = value-back v f.1 in λ i. Found (p i) (q i)
reply-back Last x f = refl
reply-back NotFound x f = refl
reply-back (Reserved n) x f = ap Reserved (number-bytes 1 n f)
reply-back (Fault n) x f = ap Fault (number-bytes 1 n f)

pub reply-unique : (r t : Reply) (x y : List ℕ) → reply_bytes r ++ x ≡ reply_bytes t ++ y → Fits r → Fits t → (r ≡ t) × (x ≡ y)
reply-unique r t x y e f g =
    let same : r ≡ t = sym (reply-back r x f) ∙ ap reply_in e ∙ reply-back t y g in
    let rest : reply_bytes r ++ x ≡ reply_bytes r ++ y = e ∙ ap (λ (u : Reply). reply_bytes u ++ y) (sym same) in
    (same, sym (drop-append_seam (reply_bytes r) x) ∙ ap (λ (l : List ℕ). drop (length (reply_bytes r)) l) rest ∙ drop-append_seam (reply_bytes r) y)
