-- What a table answers to a trace's request, and what is promised of a request that is answered on a store. Assumes nothing.
use Rattle.std.specs.Prelude.{◌≡◌}
use Rattle.value.specs.declared.Words.{Words}
use Rattle.model.specs.Table.{Room, Table, get_of, next_of}
use Rattle.model.specs.Calls.{set_of, reserve_of}
use Rattle.model.specs.Length.{length_of}
use Rattle.store.specs.Store.{Store, room_for}
use Rattle.store.specs.Written.{Sound, table_of}
use Rattle.reads.specs.declared.Next.{Next as Step}
use Rattle.reads.specs.declared.Next.TheVariants as step
use Rattle.reads.specs.Reads.{in_words}
use Rattle.table.specs.Stays.{Stays}
use Rattle.records.specs.declared.Request.{Request}
use Rattle.records.specs.declared.Request.TheVariants.{Get, Set, Length, Next, Reserve}
use Rattle.records.specs.Requests.{ValuesPassed}
use Rattle.replies.specs.declared.Reply.{Reply}
use Rattle.replies.specs.declared.Reply.TheVariants.{Got, Set as WasSet, Length as Measures, Found, Last, NotFound, Reserved}

-- a step in words as a reply
abbrev pub next_reply : Step Words → Reply
next_reply (step.Found k v) = Found k v
next_reply step.Last = Last
next_reply step.NotFound = NotFound

-- what a table answers to a request
abbrev pub reply_of : Room → Table → Request → Reply
reply_of room t (Get k) = Got (get_of t k)
reply_of room t (Set k v) = WasSet (set_of room t k v).refusal (set_of room t k v).previous
reply_of room t Length = Measures (length_of t)
reply_of room t (Next k) = next_reply (in_words (next_of t k))
reply_of room t (Reserve n) = Reserved (reserve_of room t n).refusal

abbrev pub table_after : Room → Table → Request → Table
table_after room t (Get k) = t
table_after room t (Set k v) = (set_of room t k v).table
table_after room t Length = t
table_after room t (Next k) = t
table_after room t (Reserve n) = (reserve_of room t n).table

-- a request that is answered: what is read off bytes passes values, and of others the reply is not said
pub record Answers (before : Store) (q : Request) (after : Store) (r : Reply) : Type 0 where
  pub reply : Sound before → ValuesPassed q → r ≡ reply_of (room_for before) (table_of before) q
  pub table : Sound before → table_of after ≡ table_after (room_for before) (table_of before) q
  pub kept : Sound before → Stays before after
