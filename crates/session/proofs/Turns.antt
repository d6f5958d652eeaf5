-- Where the loop of `serve` is: what was taken and written so far; and a turn. Assumes nothing.
use mathlib.Core.Path.{◌≡◌, ap, subst}
use mathlib.Core.Bool.{Bool, true, false}
use mathlib.Core.List.{List, ◌++◌}
use mathlib.Core.Logic.{inl, inr}
use Prim.Native.Nat.{ℕ, ◌+◌, ◌*◌, ◌-◌, ◌≤◌}
use native.Mathlib.Omega.{arith}
use lib.ListN.{length, take, drop, length-take, length-drop}
use lib.Seq.{take_all}
use Rattle.value.proofs.Cases.{caseb}
use Rattle.store.specs.Store.{Slices, Store, store}
use Rattle.store.specs.Written.{Sound}
use Rattle.records.specs.Requests.{is_whole}
use Rattle.replies.specs.Replies.{Appends}
use Rattle.replies.proofs.Appending.{appends-then}
use Rattle.session.specs.declared.Progress.{Progress}
use Rattle.session.specs.Served.{Decided, Further, Served, ServedInto, Paced}
use Rattle.session.proofs.Serving.{served-then}
use Rattle.session.proofs.Ways.{progress}

-- so much was done, on a store that is now in the slices a
pub record Underway (s : Store) (input : List ℕ) (last : Bool) (was : List ℕ) (a : Slices) (output : List ℕ) (done : Progress) : Type 0 where
  pub takes : done.taken ≤ length input
  pub fits : done.made ≤ length output
  pub short : Sound s → done.stopped ≡ false → done.made ≤ 3 * done.taken
  pub into : ServedInto s a (Further last) input was 0 output done

-- what is left of the input, as the code lends it
abbrev pub left_of : ℕ → List ℕ → List ℕ
left_of taken input = take (length input - taken) (drop taken input)

left_is : (taken : ℕ) (input : List ℕ) → left_of taken input ≡ drop taken input
left_is taken input = take_all (length input - taken) (drop taken input) (omega (arith, length-drop taken input))

decided : (last : Bool) (left further : List ℕ) → (last ≡ false → is_whole left ≡ true) → Further last further → Decided left further
decided last left further w f = caseb last (λ t. inr (f t)) (λ e. inl (w e))

-- what is written from the start on lies in the slice
pub written-fits : {was out output : List ℕ} {made : ℕ} → Appends was 0 out output made → made ≤ length output
written-fits {out = out} {output = output} {made = made} p =
    let all : length (take made output) ≡ length out = ap length p.holds in
    omega (arith, p.ends, all, length-take made output)

-- ---- a turn
module _ {s : Store} {input was output : List ℕ} {last : Bool} {m : Slices} {done : Progress} (u : Underway s input last was m output done)
    (goes : done.stopped ≡ false) where
  module _ {a : Slices} {after : List ℕ} {r : Progress} (whole : last ≡ false → is_whole (left_of done.taken input) ≡ true)
      (p : ServedInto (store m done.sizes) a (Decided (left_of done.taken input)) (left_of done.taken input) output done.made after r) where
    joined : ServedInto s a (Further last) input was 0 after (progress r.sizes (done.taken + r.taken) r.made r.stopped)
    joined = (
      u.into.0 ++ p.0,
      appends-then u.into.1 p.1,
      served-then (λ further f. decided last (left_of done.taken input) further whole f) (rw goes at u.into.2)
          (subst (λ (l : List ℕ). Served (store m done.sizes) (store a r.sizes) (Decided (left_of done.taken input)) l p.0 r.taken r.stopped) (left_is done.taken input) p.2),
    )

    turn-takes : done.taken + r.taken ≤ length input
    turn-takes = joined.2.takes

    pub turn-goes : Paced (store m done.sizes) done.made r → Underway s input last was a after (progress r.sizes (done.taken + r.taken) r.made r.stopped)
    turn-goes paced =
        record {
          takes = turn-takes;
          fits = written-fits joined.1;
          short = λ S f. omega (arith, u.short S goes, paced.short (u.into.2.kept S).sound f);
          into = joined;
        }
