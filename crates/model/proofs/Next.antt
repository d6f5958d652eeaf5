-- `next` against the manual (§6.1): from Nil, and then from each key handed out, a walk that nothing disturbs lists every key with a value
-- exactly once, with that value, and then ends. Assumes nothing.
use mathlib.Core.Path.{◌≡◌, refl, sym, ap, subst, ◌∙◌}
use mathlib.Core.Bool.{true, false, not, true≢false}
use mathlib.Core.List.{List, [], ◌∷◌, ◌++◌, append_assoc}
use Prim.Native.Nat.{ℕ, zero, suc, ◌+◌, ◌<◌}
use native.Mathlib.Nat.{le_of_suc-le-suc, not-suc-le-zero}
use lib.ListN.{length, drop}
use Rattle.value.specs.declared.Words.{Words}
use Rattle.value.specs.Same.{same, nil, is_nil}
use Rattle.value.proofs.Cases.{caseb, clash, or_right, never}
use Rattle.value.proofs.Same.{same-eq, same_refl, ne_same, not_live}
use Rattle.key.specs.Canonical.{integer, canonical_key}
use Rattle.key.proofs.Own.{canonical-integer}
use Rattle.model.specs.Entries.{Entry, entry, keys_of, distinct, has, find, keep, live, NextValue, first, from}
use Rattle.model.specs.Table.{Room, Table, within, array_pairs, pairs, lookup, get_of, next_of}
use Rattle.model.specs.WellFormed.{WellFormed}
use Rattle.model.specs.Manual.{Lists, end, more, PairsOf}
use Rattle.model.proofs.Entries.{has-append, has-keep, find-keep, distinct-keep, each-key}
use Rattle.model.proofs.Array.{is-first, not_first, next_place_lem, key-of-pairs, find-pairs, distinct-pairs}
use Rattle.model.proofs.Map.{numbered}
use Rattle.std.specs.Prelude.{Ok}

-- ---- next at Nil, and get at a key
pub next-nil : (t : Table) → next_of t nil ≡ first (pairs t)
unfolding next_of canonical_key
next-nil t = refl

pub get_key : (t : Table) (key k : Words) → canonical_key key ≡ Ok k → get_of t key ≡ lookup t k
unfolding get_of
get_key t key k c = rw c

-- ---- the pairs of a well-formed table
pub pairs-apart : {room : Room} {t : Table} → WellFormed room t → distinct (keys_of (pairs t))
pairs-apart {t = t} w = distinct-pairs t (numbered w) w.apart (each-key (λ k. within (length t.array) k ≡ false) _ t.entries (λ s o. o) w.outside)

pub pair-canonical : {room : Room} {t : Table} (k : Words) → WellFormed room t → has (pairs t) k ≡ true → canonical_key k ≡ Ok k
pair-canonical {t = t} k w h = key-of-pairs (λ x. canonical_key x ≡ Ok x) t (numbered w) canonical-integer (each-key (λ x. canonical_key x ≡ Ok x) _ t.entries (λ s c. c) w.canonical) k h

-- ---- a list walked from its start
pub has-middle : (pre : List Entry) (s : Entry) (post : List Entry) → has (pre ++ (s ∷ post)) s.key ≡ true
has-middle pre s post = has-append pre (s ∷ post) s.key ∙ or_right (has pre s.key) (has (s ∷ post) s.key) (rw (same_refl s.key))

-- from a key that stands in the list, what comes after it
pub from-middle : (pre : List Entry) (s : Entry) (post : List Entry) → distinct (keys_of (pre ++ (s ∷ post))) → from (pre ++ (s ∷ post)) s.key ≡ first post
from-middle [] s post d = rw (same_refl s.key)
from-middle (x ∷ pre) s post d =
    let n : same x.key s.key ≡ false = ne_same x.key s.key (λ p. clash (subst (λ (y : Words). has (pre ++ (s ∷ post)) y ≡ true) (sym p) (has-middle pre s post)) d.0)
    in rw n (from-middle pre s post d.1)

-- ---- from, on joined lists
pub from-array : (vs : List Words) (n i : ℕ) (k : Words) (m : List Entry) → k ≡ integer (suc (n + i)) → i < length vs → from (array_pairs n vs ++ m) k ≡ first (drop (suc i) (array_pairs n vs) ++ m)
from-array [] n i k m p h = absurd (not-suc-le-zero h)
from-array (v ∷ vs) n zero k m p h = rw (is-first n k p)
from-array (v ∷ vs) n (suc i) k m p h = rw (not_first n i k p) (from-array vs (suc n) i k m (next_place_lem n i k p) (le_of_suc-le-suc h))

pub from-append-not : (l m : List Entry) (k : Words) → has l k ≡ false → from (l ++ m) k ≡ from m k
from-append-not [] m k h = refl
from-append-not (s ∷ ss) m k h = caseb (same s.key k) (λ e. absurd (true≢false (rw e at h))) (λ e. rw e (from-append-not ss m k (rw e at h)))

-- a `next` that goes through a list of pairs: at the start its first with a value, and from each key of the list the first after it
module _ (next : Words → NextValue) (l : List Entry) (once : distinct (keys_of l)) (goes : (k : Words) → has l k ≡ true → next k ≡ from l k) where
  pub after-key : (pre : List Entry) (s : Entry) (post : List Entry) → pre ++ (s ∷ post) ≡ l → next s.key ≡ first post
  after-key pre s post q =
      goes s.key (subst (λ (m : List Entry). has m s.key ≡ true) q (has-middle pre s post))
      ∙ subst (λ (m : List Entry). from m s.key ≡ first post) q (from-middle pre s post (subst (λ (m : List Entry). distinct (keys_of m)) (sym q) once))

  lists-from : (post pre : List Entry) → pre ++ post ≡ l → (key : Words) → next key ≡ first post → Lists next key (keep live post)
  lists-from [] pre q key h = end h
  lists-from (s ∷ post) pre q key h =
      let q' : (pre ++ (s ∷ [])) ++ post ≡ l = append_assoc pre (s ∷ []) post ∙ q in
      caseb (is_nil s.value)
      (λ b. rw b (lists-from post (pre ++ (s ∷ [])) q' key (rw b at h)))
      (λ b. rw b (more s.key s.value (rw b at h) (lists-from post (pre ++ (s ∷ [])) q' s.key (after-key pre s post q))))

  -- it lists the pairs with a value
  pub lists : next nil ≡ first l → Lists next nil (keep live l)
  lists h = lists-from l [] refl nil h

pub next-there : {room : Room} (t : Table) → WellFormed room t → (k : Words) → has (pairs t) k ≡ true → next_of t k ≡ from (pairs t) k
unfolding next_of
next-there t w k h = rw (pair-canonical k w h)

-- what a walk lists is determined
pub lists-one : (next : Words → NextValue) {key : Words} {l m : List Entry} → Lists next key l → Lists next key m → l ≡ m
lists-one next (end p) (end q) = refl
lists-one next (end p) (more k v q b) = never (cc)
lists-one next (more k v p a) (end q) = never (cc)
lists-one next (more {ss = ss} k v p a) (more {ss = rs} j u q b) =
    let kk : j ≡ k = cc in
    let vv : v ≡ u = cc in
    let rest : ss ≡ rs = lists-one next a (subst (λ (x : Words). Lists next x rs) kk b) in
    λ i. entry (sym kk i) (vv i) ∷ rest i

-- ---- the pairs with a value are the map's
has-live : (l : List Entry) (k : Words) → distinct (keys_of l) → has (keep live l) k ≡ not (is_nil (find l k))
has-live [] k d = rw (same_refl nil)
has-live (s ∷ ss) k d =
    caseb (is_nil s.value)
    (λ b. caseb (same s.key k)
    (λ e. let n : has ss k ≡ false = subst (λ (x : Words). has ss x ≡ false) (same-eq s.key k e) d.0 in rw (b, e, b) (has-keep live ss k n))
    (λ e. rw (b, e) (has-live ss k d.1)))
    (λ b. caseb (same s.key k)
    (λ e. rw (b, e, b))
    (λ e. rw (b, e) (has-live ss k d.1)))

pub live-pairs : (value : Words → Words) (l : List Entry) → distinct (keys_of l) → ((k : Words) → find l k ≡ value k) → PairsOf value (keep live l)
live-pairs value l d h =
    record {
      once = distinct-keep live l d;
      keys = λ k. has-live l k d ∙ ap (λ (v : Words). not (is_nil v)) (h k);
      values = λ k. find-keep live l k d (λ s p b. not_live s.value b) ∙ h k;
    }

pub next-lists : {room : Room} (t : Table) → WellFormed room t → Lists (next_of t) nil (keep live (pairs t)) × PairsOf (lookup t) (keep live (pairs t))
next-lists t w = (
  lists (next_of t) (pairs t) (pairs-apart w) (next-there t w) (next-nil t),
  live-pairs (lookup t) (pairs t) (pairs-apart w) (λ k. find-pairs t k (numbered w)),
)
