-- The laws of `Served`: nothing taken, one record by what it is read as, and one after the other. Assumes nothing.
use mathlib.Core.Path.{◌≡◌, refl, sym, ap, ap₂, subst, ◌∙◌}
use mathlib.Core.Bool.{Bool, true, false, cond}
use mathlib.Core.List.{List, [], ◌++◌, append-nil, append_assoc}
use mathlib.Core.Logic.{⊎_elim}
use Prim.Native.Nat.{ℕ, ◌+◌, zero-le}
use native.Mathlib.Omega.{arith}
use lib.ListN.{drop, length-drop}
use lib.Seq.{drop-append-le, drop-drop}
use Rattle.std.specs.Prelude.{None, Some, Ok, Err}
use Rattle.model.specs.Table.{Room}
use Rattle.store.specs.Store.{Store, room_of, room_for}
use Rattle.store.specs.Written.{Sound, table_of}
use Rattle.table.specs.Stays.{Stays}
use Rattle.records.specs.declared.Request.{Request}
use Rattle.records.specs.declared.Fault.{Fault}
use Rattle.records.specs.Requests.{fault_number, record_size, reading}
use Rattle.records.proofs.Readings.{whole-stays, request-fits, request-decodes}
use Rattle.replies.specs.declared.Reply.{Reply}
use Rattle.replies.specs.declared.Reply.TheVariants.{Fault as Faults}
use Rattle.replies.specs.Replies.{reply_bytes}
use Rattle.answers.specs.Answers.{Answers}
use Rattle.session.specs.Trace.{trace_of}
use Rattle.session.specs.Served.{Decided, Served}
use Rattle.session.proofs.Tracing.{trace-end, trace-fault, trace-request}

-- ---- sound stores
pub stays_same : {s : Store} → Sound s → Stays s s
stays_same S = record { sound = S; lengths = refl }

pub stays_then : {s m a : Store} → Stays s m → Stays m a → Stays s a
stays_then p q = record { sound = q.sound; lengths = q.lengths ∙ p.lengths }

pub room-stays : {s a : Store} → Stays s a → room_for a ≡ room_for s
room-stays p = ap room_of p.lengths

-- ---- nothing taken
pub served-none : (s : Store) (May : List ℕ → Type 0) (input : List ℕ) → Served s s May input [] 0 false
served-none s May input = record { takes = zero-le; kept = stays_same; trace = λ S more m. refl }

-- ---- one record
-- what follows does not change how it is read
decided-stays : (input more : List ℕ) → Decided input more → (reading (input ++ more) ≡ reading input) × (record_size (input ++ more) ≡ record_size input)
decided-stays input more =
    ⊎_elim (whole-stays input more)
    (λ e. let all : input ++ more ≡ input = ap (λ (l : List ℕ). input ++ l) e ∙ append-nil input in (ap reading all, ap record_size all))

module _ (s : Store) (input : List ℕ) where
  pub served-end : reading input ≡ Ok None → Served s s (Decided input) input [] 0 true
  served-end r =
      record {
        takes = zero-le;
        kept = stays_same;
        trace = λ S more d. trace-end _ _ (input ++ more) ((decided-stays input more d).0 ∙ r);
      }

  pub served-fault : (x : Fault) → reading input ≡ Err x → Served s s (Decided input) input (reply_bytes (Faults (fault_number x))) 0 true
  served-fault x r =
      record {
        takes = zero-le;
        kept = stays_same;
        trace =
            λ S more d. trace-fault _ _ (input ++ more) x ((decided-stays input more d).0 ∙ r) ∙ sym (append-nil (reply_bytes (Faults (fault_number x))));
      }

  pub served-request : {a : Store} {y : Reply} (q : Request) → reading input ≡ Ok (Some q) → Answers s q a y
      → Served s a (Decided input) input (reply_bytes y) (record_size input) false
  served-request {a} {y} q r p =
      record {
        takes = (request-fits input q r).1;
        kept = p.kept;
        trace =
            λ S more d.
            let stays = decided-stays input more d in
            trace-request (room_for s) (table_of s) (input ++ more) q (stays.0 ∙ r)
            ∙ ap₂ (λ (y : Reply) (l : List ℕ). reply_bytes y ++ l) (sym (p.reply S (request-decodes input q r)))
            (ap₂ (trace_of (room_for s)) (sym (p.table S))
            (ap (λ (n : ℕ). drop n (input ++ more)) stays.1 ∙ drop-append-le (record_size input) input more (request-fits input q r).1));
      }

-- ---- one after the other
module _ {s m a : Store} {May Then : List ℕ → Type 0} {input out outs : List ℕ} {taken more : ℕ} {stopped : Bool} where
  pub served-then : ((further : List ℕ) → May further → Then further) → Served s m May input out taken false → Served m a Then (drop taken input) outs more stopped
      → Served s a May input (out ++ outs) (taken + more) stopped
  served-then may p q =
      record {
        takes = omega (arith, p.takes, q.takes, length-drop taken input);
        kept = λ S. let k = p.kept S in stays_then k (q.kept k.sound);
        trace =
            λ S further f.
            let k = p.kept S in
            p.trace S further f
            ∙ ap (λ (l : List ℕ). out ++ l)
            (subst
            (λ (room : Room). trace_of room (table_of m) (drop taken input ++ further) ≡ outs ++ cond stopped [] (trace_of room (table_of a) (drop more (drop taken input) ++ further)))
            (room-stays k)
            (q.trace k.sound further (may further f))
            ∙ ap (λ (l : List ℕ). outs ++ cond stopped [] (trace_of (room_for s) (table_of a) (l ++ further))) (drop-drop more taken input))
            ∙ sym (append_assoc out outs (cond stopped [] (trace_of (room_for s) (table_of a) (drop (taken + more) input ++ further))));
      }
