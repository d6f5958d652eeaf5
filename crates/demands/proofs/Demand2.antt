-- Demand 2 on stores: whatever words meet the promises, call after call from a fresh store, the answers are the original's while there is room,
-- and so are gets, the pairs of a walk, and the length where there is one border. Assumes nothing.
use mathlib.Core.Path.{◌≡◌, refl, sym, ap, ap₂, subst, ◌∙◌}
use mathlib.Core.List.{List, ◌∷◌}
use Prim.Native.Nat.{ℕ}
use Rattle.value.specs.declared.Words.{Words}
use Rattle.value.specs.Encoding.{Decodes}
use Rattle.model.specs.Entries.{Entry, Each}
use Rattle.model.specs.Table.{Table, fresh, next_of}
use Rattle.model.specs.Manual.{Lists, end as last, more as then}
use Rattle.model.specs.Calls.{Outcome}
use Rattle.model.proofs.Kept.{nil-decodes, next-decodes}
use Rattle.original.specs.Original.{Addresses, Original, new}
use Rattle.original.specs.Runs.{Call, Answer, was, Run, says, told, ours, Roomy, Runs, Comparable}
use Rattle.original.specs.Agreement.{Agree}
use Rattle.original.proofs.Demand2.{demand2 as model-agrees}
use Rattle.store.specs.declared.Record.{Record}
use Rattle.store.specs.Store.{Slices, Store, store, lengths_of, room_of, room_for}
use Rattle.store.specs.Written.{Sound, table_of}
use Rattle.store.specs.Fresh.{FreshMade}
use Rattle.store.proofs.Views.{table-written}
use Rattle.store.proofs.Sound.{sound-formed, sound-shaped}
use Rattle.store.proofs.Unique.{fresh-made-sound}
use Rattle.reads.proofs.Unique.{get-done, length-done}
use Rattle.writes.specs.Writes.{Left, Promised}
use Rattle.demands.specs.Calls.{got_answer, left_answer, Called, none, got, wrote, reserved, Listed, end, more, Agrees}
use Rattle.table.specs.Stays.{Stays}
use Rattle.table.proofs.Outcomes.{refusal_is, previous-is, table_is, set-stays, reserve-stays}
use Rattle.std.specs.Prelude.{Ok}

-- ---- calls on a store are calls on its table
-- what a run of the table says, and the table that it ends in, are said and held here
abbrev pub Goes : Run → List Answer → Store → Type 0
Goes run xs u = Sound u × (xs ≡ run.said) × (table_of u ≡ run.finally)

-- a call that writes, and then these calls
wrote-first : {s u : Store} {o : Outcome} {Numbers : ℕ → Type 0} {l : Left} (cs : List Call) {xs : List Answer} → Sound s → Promised s o Numbers l → Stays s l.store
    → Goes (ours (room_for l.store) (table_of l.store) cs) xs u → Goes (says (told o) (ours (room_for s) o.table cs)) (left_answer l ∷ xs) u
wrote-first {s = s} {o = o} {l = l} cs S p n rest =
    let run : ours (room_for l.store) (table_of l.store) cs ≡ ours (room_for s) o.table cs = λ j. ours (room_of (n.lengths j)) (table_is S p j) cs in (
      rest.0,
      ap₂ {C = List Answer} (λ x y. x ∷ y) (ap₂ was (refusal_is S p) (previous-is S p)) (rest.1 ∙ ap (λ (x : Run). x.said) run),
      rest.2 ∙ ap (λ (x : Run). x.finally) run,
    )

pub called : {s u : Store} {cs : List Call} {xs : List Answer} → Sound s → Each Comparable cs → Called s cs xs u → Goes (ours (room_for s) (table_of s) cs) xs u
called S a none = (S, refl, refl)
called S a (got key r p m) =
    let rest = called S a.1 m in
    (rest.0, ap₂ {C = List Answer} (λ x y. x ∷ y) (ap got_answer (get-done _ key r p S a.0)) rest.1, rest.2)
called S a (wrote {cs = cs} key v after r p m) =
    let n = set-stays key v S p in wrote-first cs S p n (called n.sound a.1 m)
called S a (reserved {cs = cs} k after r p m) =
    let n = reserve-stays k S p in wrote-first cs S p n (called n.sound a.1 m)

-- ---- what agrees of the table agrees of the store
module _ {u : Store} (U : Sound u) where
  listed-lists : {key : Words} {l : List Entry} → Listed u key l → Lists (next_of (table_of u)) key l
  listed-lists (end p) = last (p.2 U)
  listed-lists (more k v p m) = then k v (p.2 U) (listed-lists m)

  -- every key that is handed out is a value's
  lists-listed : {key : Words} {l : List Entry} → Decodes key → Lists (next_of (table_of u)) key l → Listed u key l
  lists-listed d (last p) = end (sound-shaped u U, d, λ S. p)
  lists-listed {key = key} d (then k v p m) =
      more k v (sound-shaped u U, d, λ S. p) (lists-listed (next-decodes (room_for u) (table_of u) key k v (sound-formed u U) p).0 m)

  agrees : {addresses : Addresses} {o : Original} → Agree addresses (table_of u) o → Agrees addresses u o
  agrees g =
      record {
        sound = U;
        gets = λ key a d p. get-done _ key a p U d ∙ ap Ok (g.gets key d);
        walks = λ l m p q. g.walks l m (listed-lists p) q;
        ends = (g.end.0, g.end.1, lists-listed nil-decodes g.end.2, g.end.3);
        lengths = λ a b c p. length-done _ a p U ∙ ap Ok (g.lengths b c);
      }

pub demand2 : (before after : Slices) (r : Record) → FreshMade before after (Ok r) → (addresses : Addresses) (cs : List Call) → Each Comparable cs
    → (xs : List Answer) (u : Store) → Called (store after r) cs xs u → Roomy xs → (ys : List Answer) (o : Original) → Runs addresses new cs ys o → (xs ≡ ys) × Agrees addresses u o
demand2 before after r f addresses cs a xs u m y ys o runs =
    let s : Store = store after r in
    let S : Sound s = fresh-made-sound before after r f in
    let t : table_of s ≡ fresh = ap table_of f.1 ∙ table-written (lengths_of before) fresh in
    let run : ours (room_for s) (table_of s) cs ≡ ours (room_for s) fresh cs = ap (λ (x : Table). ours (room_for s) x cs) t in
    let g = called S a m in
    let said : xs ≡ (ours (room_for s) fresh cs).said = g.1 ∙ ap (λ (x : Run). x.said) run in
    let finally : table_of u ≡ (ours (room_for s) fresh cs).finally = g.2 ∙ ap (λ (x : Run). x.finally) run in
    let all = model-agrees addresses (room_for s) (sound-formed s S).fair cs a (subst Roomy said y) ys o runs in
    (said ∙ all.0, agrees g.0 (subst (λ (x : Table). Agree addresses x o) (sym finally) all.1))
