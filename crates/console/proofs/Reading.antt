-- A loop of reads into a room: what is done so far is what the reader gave so far. Over bytes that are known or not. Assumes nothing.
use Rattle.std.proofs.Common.{◌≡◌, ℕ, ◌+◌, ◌≤◌, List, [], ◌++◌, length, take, sym, ap, ◌∙◌, zero-le, Option, Result, Ok, Err}
use Rattle.std.proofs.KnownBytes.{Consumes-nil, Consumes-kept}
use Rattle.std.proofs.Math.Seq.{take-append-add}
use Rattle.std.proofs.lemmas.List.{length-take-le, take-append-le}
use Rattle.std.specs.Io.{ReadsAtMost}
use Rattle.std.specs.Io.KnownBytes.{Consumes, ReadConsumes}
use Rattle.std.specs.Result.{result_unwrap_or}
use borrow.Rule.Slice.PartMut.{put_mid, post_of}

-- a read that failed gave nothing
pub given-fits : {E : Type 0} (r : Result ℕ E) (buf : List ℕ) → ReadsAtMost r buf → result_unwrap_or r 0 ≤ length buf
given-fits (Ok n) buf h = h.0
given-fits (Err e) buf h = zero-le

pub given : {E : Type 0} (a b : Option (List ℕ)) (r : Result ℕ E) (buf : List ℕ) → ReadConsumes a b r buf → Consumes a b (take (result_unwrap_or r 0) buf)
given a b (Ok n) buf h = h.0
given a b (Err e) buf h = Consumes-kept a a b [] (Consumes-nil a) h

-- after a read behind the first d bytes of a room: these, and the n that came
pub take-read : (d n k : ℕ) (room came : List ℕ) → d ≤ length room → n ≤ length came → take (d + n) (put_mid d k room came) ≡ take d room ++ take n came
take-read d n k room came h g =
    let front : length (take d room) ≡ d = length-take-le d room h in
    ap (λ (m : ℕ). take (m + n) (put_mid d k room came)) (sym front)
    ∙ take-append-add (take d room) (came ++ post_of d k room) n
    ∙ ap (λ (l : List ℕ). take d room ++ l) (take-append-le n came (post_of d k room) g)
