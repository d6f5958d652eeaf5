-- What each way through `serve_record` comes to, by what the record is read as. Assumes nothing.
use mathlib.Core.Path.{◌≡◌, refl, sym, ap}
use mathlib.Core.Bool.{Bool, true, false}
use mathlib.Core.List.{List, [], append-nil}
use Prim.Native.Nat.{ℕ}
use native.Mathlib.Omega.{arith}
use lib.ListN.{length, take}
use Rattle.std.specs.Prelude.{None, Some, Ok, Err}
use Rattle.value.proofs.Cases.{clash}
use Rattle.store.specs.declared.Record.{Record}
use Rattle.store.specs.Store.{Slices, Store, store, room_for}
use Rattle.store.specs.Written.{table_of}
use Rattle.records.specs.declared.Request.{Request}
use Rattle.records.specs.declared.Fault.{Fault}
use Rattle.records.specs.Requests.{fault_number, record_size, reading}
use Rattle.records.proofs.Readings.{request-fits, request-decodes}
use Rattle.replies.specs.declared.Reply.{Reply}
use Rattle.replies.specs.declared.Reply.TheVariants.{Fault as Faults}
use Rattle.replies.specs.Replies.{Appends, reply_bytes}
use Rattle.answers.specs.Answers.{reply_of, Answers}
use Rattle.session.specs.declared.Progress.{Progress}
use Rattle.session.specs.Served.{Decided, ServedInto, Paced}
use Rattle.session.proofs.Serving.{served-end, served-fault, served-request}
use Rattle.session.proofs.Waiting.{reply-short}

abbrev pub progress : Record → ℕ → ℕ → Bool → Progress
progress sizes taken made stopped = record { sizes = sizes; taken = taken; made = made; stopped = stopped }

pub appends-none : (l : List ℕ) (at : ℕ) → Appends l at [] l at
appends-none l at = record { ends = omega arith; holds = sym (append-nil (take at l)) }

pub paced-stopped : {s : Store} {at : ℕ} (r : Progress) → r.stopped ≡ true → Paced s at r
paced-stopped r t = record { takes = λ f. clash t f; short = λ S f. clash t f }

-- what `serve_record` promises
abbrev pub Promises : Store → Slices → List ℕ → List ℕ → ℕ → List ℕ → Progress → Type 0
Promises s a input was at after r = ServedInto s a (Decided input) input was at after r × Paced s at r

module _ {s : Store} {input was : List ℕ} {at : ℕ} where
  pub way_end : reading input ≡ Ok None → Promises s s.slices input was at was (progress s.sizes 0 at true)
  way_end r = (([], appends-none was at, served-end s input r), paced-stopped _ refl)

  pub way-fault : {after : List ℕ} {end : ℕ} (x : Fault) → reading input ≡ Err x → Appends was at (reply_bytes (Faults (fault_number x))) after end
      → Promises s s.slices input was at after (progress s.sizes 0 end true)
  way-fault x r w = ((reply_bytes (Faults (fault_number x)), w, served-fault s input x r), paced-stopped _ refl)

  pub way-request : {a : Slices} {sizes : Record} {y : Reply} {size : ℕ} {after : List ℕ} {end : ℕ} (q : Request) → reading input ≡ Ok (Some q)
      → Answers s q (store a sizes) y → size ≡ record_size input → Appends was at (reply_bytes y) after end
      → Promises s a input was at after (progress sizes size end false)
  way-request {y = y} q r p e w =
      let fits = request-fits input q r in (
        (reply_bytes y, w, rw e (served-request s input q r p)),
        record {
          takes = λ f. omega (arith, e, fits);
          short =
              λ S f.
              let long : length (reply_bytes y) ≡ length (reply_bytes (reply_of (room_for s) (table_of s) q)) =
              ap (λ (x : Reply). length (reply_bytes x)) (p.reply S (request-decodes input q r)) in
              omega (arith, e, long, w.ends, reply-short (room_for s) (table_of s) input q r);
        },
      )
