-- Demand 2: after the same calls from fresh, whatever the original's parts choose and in whatever order its map stands, our answers are its
-- answers, and gets, the pairs of a walk, and the length where there is one border are its own. Assumes nothing.
use mathlib.Core.Path.{◌≡◌, refl, sym, ap, ap₂, subst, ◌∙◌}
use mathlib.Core.Bool.{true, cond}
use mathlib.Core.List.{List, ◌∷◌}
use mathlib.Core.Logic.{inl, inr}
use Prim.Native.Nat.{ℕ}
use Rattle.value.specs.declared.Words.{Words}
use Rattle.value.specs.Encoding.{Decodes}
use Rattle.value.specs.Same.{same, nil}
use Rattle.value.specs.Refusals.{no_room}
use Rattle.key.specs.Canonical.{canonical_key}
use Rattle.key.proofs.Own.{by_key, canonical-own}
use Rattle.model.specs.Entries.{keep, live, Each}
use Rattle.model.specs.Table.{Room, Table, fresh, pairs, lookup, get_of, next_of}
use Rattle.model.specs.Length.{length_of}
use Rattle.model.specs.Manual.{OneBorder, Lists}
use Rattle.model.specs.Calls.{Outcome, are_values, set_of, reserve_of}
use Rattle.model.specs.WellFormed.{Fair, WellFormed}
use Rattle.model.proofs.Map.{set_key_lem, set-no-key, Sets, set-sets, reserve-lookup}
use Rattle.model.proofs.Kept.{fresh_kept, set_of-kept, reserve-kept}
use Rattle.model.proofs.Refusals.{reserve-either}
use Rattle.model.proofs.Next.{lists-one, next-lists}
use Rattle.original.specs.Original.{Cell, Original, new, Addresses, Choice, OriginalOutcome, with_map, original_get, original_set, original_reserve, original_next, original_length}
use Rattle.original.specs.Runs.{Answer, value, was, ours, told, Roomy, Call, Shuffled, Runs, stopped, got, written, reserved, Comparable}
use Rattle.original.specs.Agreement.{ClearedLargest, Agree}
use Rattle.original.proofs.Cells.{cell_of}
use Rattle.original.proofs.Order.{shuffled-map}
use Rattle.original.proofs.Right.{with_entries, right-fresh, right-shuffled, shuffled-lookup}
use Rattle.original.proofs.Sets.{StandsFor, carried, OriginalSets, original-sets, original-refuses, reserve-is, original-get}
use Rattle.original.proofs.Walks.{original-lists, same-pairs}
use Rattle.original.proofs.Lengths.{same_length}
use Rattle.std.specs.Prelude.{Ok}

abbrev said : OriginalOutcome → Answer
said a = was a.refusal a.previous

module _ (addresses : Addresses) (room : Room) where
  -- two tables after the same calls: ours in its shape, and the original's standing for one with the same map
  record Together (t : Table) (r : Original) : Type 0 where
    here : WellFormed room t
    there : StandsFor addresses (lookup t) r

  -- ---- what agrees
  same-get : (t : Table) (r : Original) → Together t r → (key : Words) → get_of t key ≡ original_get addresses r key
  unfolding get_of
  same-get t r g key =
      by_key key
      (λ k e. rw e (sym (g.there.holds k)))
      (λ m e. rw e) ∙ sym (ap (λ (x : Original). original_get addresses x key) g.there.is ∙ original-get addresses g.there.table key)

  agree : (t : Table) (r : Original) → Together t r → Agree addresses t r
  agree t r g =
      record {
        gets = λ key d. same-get t r g key;
        end = (keep live (pairs t), keep live (pairs u), (next-lists t g.here).0, its);
        walks = λ l m a b. rw (lists-one (next_of t) a (next-lists t g.here).0, lists-one (original_next addresses r) b its)
            (same-pairs (lookup t) (lookup u) (keep live (pairs t)) (keep live (pairs u)) maps (next-lists t g.here).1 (original-lists addresses u g.there.right).1);
        lengths = subst (λ (x : Original). OneBorder t → (ClearedLargest addresses x → ⊥) → length_of t ≡ original_length addresses x) (sym g.there.is)
            (same_length addresses t u g.here g.there.right maps);
      }
    where
      u : Table
      u = g.there.table

      maps : (j : Words) → lookup t j ≡ lookup u j
      maps j = sym (g.there.holds j)

      its : Lists (original_next addresses r) nil (keep live (pairs u))
      its = subst (λ (x : Original). Lists (original_next addresses x) nil (keep live (pairs u))) (sym g.there.is) (original-lists addresses u g.there.right).0

  -- the map's order
  reordered : (t : Table) (r : Original) → Together t r → {m : List Cell} → Shuffled r.map m → Together t (with_map r m)
  reordered t r g f =
      let u : Table = g.there.table in
      let to = shuffled-map (cell_of addresses) f u.entries (ap (λ (x : Original). x.map) g.there.is) in
      record {
        here = g.here;
        there = record {
          table = with_entries u to.0;
          is = λ i. record { array = (g.there.is i).array; map = to.1 i };
          right = right-shuffled u g.there.right to.2;
          holds = λ j. shuffled-lookup u g.there.right to.2 j ∙ g.there.holds j;
        };
      }

  -- ---- set
  same_set : (t : Table) (r : Original) → Together t r → (c : Choice) (key v : Words) → Decodes key → Decodes v → ((set_of room t key v).refusal ≡ no_room → ⊥)
      → (told (set_of room t key v) ≡ said (original_set addresses c r key v)) × Together (set_of room t key v).table (original_set addresses c r key v).now
  same_set t r g c key v dk dv h = by_key key keyed (λ m e. rw (set-no-key room t key v both m e, original-refuses addresses c r key v m e) (refl, g))
    where
      u : Table
      u = g.there.table

      both : are_values key v ≡ true
      both = rw dk dv

      keyed : (k : Words) → canonical_key key ≡ Ok k
          → (told (set_of room t key v) ≡ said (original_set addresses c r key v)) × Together (set_of room t key v).table (original_set addresses c r key v).now
      keyed k e = elim (set-sets room t k v g.here) [
        | inl m ↦
            let ours : Sets (lookup t) k v (set_of room t key v) = subst (Sets (lookup t) k v) (sym (set_key_lem room t key v both k e)) m in
            let its : OriginalSets addresses (lookup u) k v (original_set addresses c r key v) =
            subst (λ (x : Original). OriginalSets addresses (lookup u) k v (original_set addresses c x key v)) (sym g.there.is) (original-sets addresses c u key k v g.there.right e (canonical-own key k e)) in (
              ap₂ was (ours.ok ∙ sym its.ok) (ours.previously ∙ sym (its.previously ∙ g.there.holds k)),
              record {
                here = set_of-kept room t key v g.here;
                there = carried addresses (λ j. ap (λ (x : Words). cond (same k j) v x) (g.there.holds j) ∙ sym (ours.now j)) its.now;
              },
            )
        | inr p ↦ absurd (h (ap (λ (o : Outcome). o.refusal) (set_key_lem room t key v both k e ∙ p)))
      ]

  -- ---- reserve
  same-reserve : (t : Table) (r : Original) → Together t r → (c : Choice) (n : ℕ) → ((reserve_of room t n).refusal ≡ no_room → ⊥)
      → (told (reserve_of room t n) ≡ was 0 nil) × Together (reserve_of room t n).table (original_reserve c r)
  same-reserve t r g c n h =
      let u : Table = g.there.table in
      let its : StandsFor addresses (lookup u) (original_reserve c r) =
      subst (λ (x : Original). StandsFor addresses (lookup u) (original_reserve c x)) (sym g.there.is) (reserve-is addresses c u g.there.right) in (
        elim (reserve-either room t n) [ inl x ↦ absurd (h (ap (λ (o : Outcome). o.refusal) x.0)) | inr x ↦ ap₂ was x.0 x.1 ],
        record {
          here = reserve-kept room t n g.here;
          there = carried addresses (λ j. g.there.holds j ∙ sym (reserve-lookup room t n j g.here)) its;
        },
      )

  -- ---- any calls
  together : (t : Table) {r u : Original} {cs : List Call} {xs : List Answer} → Together t r → Each Comparable cs → Roomy (ours room t cs).said
      → Runs addresses r cs xs u → ((ours room t cs).said ≡ xs) × Together (ours room t cs).finally u
  together t g a o stopped = (refl, g)
  together t {r = r} g a o (got key s) =
      let rest : _ = together t g a.1 o s in
      (ap₂ {C = List Answer} (λ x y. x ∷ y) (ap value (same-get t r g key)) rest.0, rest.1)
  together t {r = r} g a o (written c key v f s) =
      let one : _ = same_set t r g c key v a.0.0 a.0.1 o.0 in
      let rest : _ = together (set_of room t key v).table (reordered (set_of room t key v).table (original_set addresses c r key v).now one.1 f) a.1 o.1 s in
      (ap₂ {C = List Answer} (λ x y. x ∷ y) one.0 rest.0, rest.1)
  together t {r = r} g a o (reserved c n f s) =
      let one : _ = same-reserve t r g c n o.0 in
      let rest : _ = together (reserve_of room t n).table (reordered (reserve_of room t n).table (original_reserve c r) one.1 f) a.1 o.1 s in
      (ap₂ {C = List Answer} (λ x y. x ∷ y) one.0 rest.0, rest.1)

pub demand2 : (addresses : Addresses) (room : Room) → Fair room → (cs : List Call) → Each Comparable cs → Roomy (ours room fresh cs).said → (xs : List Answer) (r : Original)
    → Runs addresses new cs xs r → ((ours room fresh cs).said ≡ xs) × Agree addresses (ours room fresh cs).finally r
demand2 addresses room h cs a o xs r s =
    let all : _ = together addresses room fresh (record { here = fresh_kept room h; there = record { table = fresh; is = refl; right = right-fresh; holds = λ j. refl } }) a o s in
    (all.0, agree addresses room (ours room fresh cs).finally r all.1)
