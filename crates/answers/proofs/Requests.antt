-- A request answered by its call: what the call promises makes the reply and the store after it the table's. Assumes nothing.
use mathlib.Core.Path.{◌≡◌, refl, ap, subst, ◌∙◌}
use Prim.Native.Nat.{ℕ}
use Rattle.std.specs.Prelude.{Result, Ok, Err}
use Rattle.std.specs.Result.{result_unwrap_or}
use Rattle.value.specs.declared.Words.{Words}
use Rattle.value.specs.declared.refusal.Refusal.{Refusal}
use Rattle.value.specs.Refusals.{refusal_number, answer_number}
use Rattle.value.specs.Same.{nil}
use Rattle.model.specs.Calls.{Outcome}
use Rattle.store.specs.declared.Record.{Record}
use Rattle.store.specs.Store.{Slices, Store, store, room_for}
use Rattle.store.specs.Written.{Sound, table_of}
use Rattle.reads.specs.declared.Next.{Next as Step}
use Rattle.reads.specs.Reads.{GetAnswers, NextAnswers, LengthAnswers}
use Rattle.reads.proofs.Unique.{get-done, next-done, length-done}
use Rattle.writes.specs.Writes.{Left, left, set_left, reserve_left, RoomOnly, SetNumbers, Promised, set_outcome, reserve_outcome, SetDone, ReserveDone}
use Rattle.table.specs.Stays.{Stays}
use Rattle.table.proofs.Outcomes.{refusal_is, previous-is, table_is, set-stays, reserve-stays}
use Rattle.records.specs.declared.Request.{Request}
use Rattle.records.specs.declared.Request.TheVariants.{Get, Set, Length, Next, Reserve}
use Rattle.records.specs.Requests.{ValuesPassed}
use Rattle.replies.specs.declared.Reply.{Reply}
use Rattle.replies.specs.declared.Reply.TheVariants.{Got, Set as WasSet, Length as Measures, Reserved as WasReserved, Fault}
use Rattle.answers.specs.Answers.{next_reply, reply_of, table_after, Answers}

-- ---- the answer of a call that reads, as a reply
abbrev pub replied : {X : Type 0} → (X → Reply) → Result X Refusal → Reply
replied reply (Ok x) = reply x
replied reply (Err e) = Fault (refusal_number e)

-- ---- a read leaves the store as it is
module _ (s : Store) where
  read : (q : Request) (r : Reply) → table_of s ≡ table_after (room_for s) (table_of s) q → (Sound s → ValuesPassed q → r ≡ reply_of (room_for s) (table_of s) q) → Answers s q s r
  read q r same e = record { reply = e; table = λ S. same; kept = λ S. record { sound = S; lengths = refl } }

  pub get-answers : (key : Words) (a : Result Words Refusal) (r : Reply) → GetAnswers s key a → r ≡ replied Got a → Answers s (Get key) s r
  get-answers key a r p e = read (Get key) r refl (λ S d. e ∙ ap (replied Got) (get-done s key a p S d))

  pub length-answers : (a : Result ℕ Refusal) (r : Reply) → LengthAnswers s a → r ≡ replied Measures a → Answers s Length s r
  length-answers a r p e = read Length r refl (λ S d. e ∙ ap (replied Measures) (length-done s a p S))

  pub next-answers : (key : Words) (a : Result (Step Words) Refusal) (r : Reply) → NextAnswers s key a → r ≡ replied next_reply a → Answers s (Next key) s r
  next-answers key a r p e = read (Next key) r refl (λ S d. e ∙ ap (replied next_reply) (next-done s key a p S d))

-- ---- a write leaves its outcome
write : {s : Store} {o : Outcome} {Numbers : ℕ → Type 0} {l : Left} (q : Request) (reply : ℕ → Words → Reply)
    → reply o.refusal o.previous ≡ reply_of (room_for s) (table_of s) q → o.table ≡ table_after (room_for s) (table_of s) q
    → Promised s o Numbers l → (Sound s → Stays s l.store) → Answers s q l.store (reply l.refusal l.previous)
write q reply e t p stays =
    record {
      reply = λ S d. (λ j. reply (refusal_is S p j) (previous-is S p j)) ∙ e;
      table = λ S. table_is S p ∙ t;
      kept = stays;
    }

-- n is the number of the call's answer, and what it did not answer is Nil and the record that was passed
module _ (s : Store) (after : Slices) where
  set_left-is : (a : Result (Words × Record) Refusal) (n : ℕ) (x : Words × Record) → n ≡ answer_number a → x ≡ result_unwrap_or a (nil, s.sizes)
      → set_left s.sizes after a ≡ left n x.0 (store after x.1)
  set_left-is (Ok y) n x e f = rw (e, f)
  set_left-is (Err y) n x e f = rw (e, f)

  pub set-answers : (key v : Words) (a : Result (Words × Record) Refusal) (n : ℕ) (x : Words × Record) → SetDone s key v after a → n ≡ answer_number a
      → x ≡ result_unwrap_or a (nil, s.sizes) → Answers s (Set key v) (store after x.1) (WasSet n x.0)
  set-answers key v a n x d e f =
      let p = subst (Promised s (set_outcome s key v) (SetNumbers key v)) (set_left-is a n x e f) d in
      write (Set key v) WasSet refl refl p (λ S. set-stays key v S p)

  reserve_left-is : (a : Result Record Refusal) (n : ℕ) (r : Record) → n ≡ answer_number a → r ≡ result_unwrap_or a s.sizes
      → reserve_left s.sizes after a ≡ left n nil (store after r)
  reserve_left-is (Ok y) n r e f = rw (e, f)
  reserve_left-is (Err y) n r e f = rw (e, f)

  pub reserve-answers : (m : ℕ) (a : Result Record Refusal) (n : ℕ) (r : Record) → ReserveDone s m after a → n ≡ answer_number a
      → r ≡ result_unwrap_or a s.sizes → Answers s (Reserve m) (store after r) (WasReserved n)
  reserve-answers m a n r d e f =
      let p = subst (Promised s (reserve_outcome s m) RoomOnly) (reserve_left-is a n r e f) d in
      write (Reserve m) (λ k previous. WasReserved k) refl refl p (λ S. reserve-stays m S p)

-- what a call promises gives what its reply promises
pub ruleset answering = (get-answers, length-answers, next-answers, set-answers, reserve-answers)
