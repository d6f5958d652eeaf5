-- What holds at every moment of a walk, and that each event keeps it. It goes by the pairs before and after the key last handed out, and not
-- by positions, so that pairs may leave either side. Assumes nothing.
use mathlib.Core.Path.{◌≡◌, refl, sym, ap, subst, ◌∙◌}
use mathlib.Core.Bool.{true, false, not, cond, ◌||◌, true≢false}
use mathlib.Core.List.{List, [], ◌∷◌, ◌++◌, append_assoc}
use mathlib.Core.Logic.{◌⊎◌, inl, inr}
use lib.ListN.{length}
use Rattle.value.specs.declared.Words.{Words}
use Rattle.value.specs.Encoding.{decodes, Decodes}
use Rattle.value.specs.Same.{same, nil, is_nil}
use Rattle.value.proofs.Cases.{caseb, clash, or_cases, or_right}
use Rattle.value.proofs.Same.{same-eq, same_refl, eq-same}
use Rattle.key.specs.Canonical.{canonical_key}
use Rattle.key.proofs.Own.{canonical-own}
use Rattle.model.specs.Entries.{Entry, entry, keys_of, member, distinct, has, find, put, live, found, last, first}
use Rattle.model.specs.Table.{Room, Table, within, pairs, lookup, get_of, next_of}
use Rattle.model.specs.Calls.{Outcome, set_key, set_of}
use Rattle.model.specs.WellFormed.{WellFormed}
use Rattle.model.proofs.Entries.{updated, put-keys, keys-append, has-append, find-append-has, find-append-not, find_absent, find-put, has-snoc, has-keep, each-key}
use Rattle.model.proofs.Array.{has-pairs, key-of-pairs, find-pairs, pairs-write_array, pairs-write_entry}
use Rattle.model.proofs.Map.{by-set, numbered}
use Rattle.model.proofs.Kept.{set_key-kept}
use Rattle.model.proofs.Next.{next-nil, next-there, after-key, get_key, pairs-apart, pair-canonical, has-middle, next-lists}
use Rattle.walk.specs.History.{live_keys, May}
use Rattle.walk.proofs.Lists.{apart, keys-split, last_key, last_snoc, last_entry, FirstFound, first_found, first-last}
use Rattle.std.specs.Prelude.{Ok}

pub record Inv (room : Room) (t₀ t : Table) (allowed : List Words) (key : Words) (handed : List Entry) (Through : Words → Type 0) : Type 0 where
  pub well_formed : WellFormed room t
  pub before : List Entry
  pub after : List Entry
  pub split : pairs t ≡ before ++ after
  -- nothing is before Nil, and the key last handed out is the last before
  pub standing : last_key nil (keys_of before) ≡ key
  pub once : distinct (keys_of handed)
  pub new : (k : Words) → has after k ≡ true → has handed k ≡ false
  -- a key with a value throughout is not passed over, and has one now
  pub came : (j k : Words) → canonical_key j ≡ Ok k → Through j → has before k ≡ true → has handed k ≡ true
  pub now : (j : Words) → Through j → is_nil (get_of t j) ≡ false
  -- the keys that may be set are there, have all the values, and had one at the start, as those handed out had
  pub present : (k : Words) → member allowed k ≡ true → has (pairs t) k ≡ true
  pub settable : (k : Words) → is_nil (lookup t k) ≡ false → member allowed k ≡ true
  pub start : (k : Words) → member allowed k ≡ true → member (live_keys t₀) k ≡ true
  pub among : (k : Words) → has handed k ≡ true → member (live_keys t₀) k ≡ true

-- ---- the pairs of a well-formed table
module _ {room : Room} {t : Table} (w : WellFormed room t) where
  next-standing : (before after : List Entry) → pairs t ≡ before ++ after → next_of t (last_key nil (keys_of before)) ≡ first after
  next-standing [] after q = next-nil t ∙ ap first q
  next-standing (s ∷ ss) after q =
      let r : (l : List Entry) × (x : Entry) × (s ∷ ss ≡ l ++ (x ∷ [])) × (x.key ≡ last_key s.key (keys_of ss)) = last_entry s ss in
      let p : pairs t ≡ r.0 ++ (r.1 ∷ after) = q ∙ ap (λ (l : List Entry). l ++ after) r.2 ∙ append_assoc r.0 (r.1 ∷ []) after in
      subst (λ (k : Words). next_of t k ≡ first after) r.3 (after-key (next_of t) (pairs t) (pairs-apart w) (next-there t w) r.0 r.1 after (sym p))

  pub value_there : (k : Words) → is_nil (lookup t k) ≡ false → has (pairs t) k ≡ true
  value_there k n =
      caseb (has (pairs t) k) (λ b. b)
      (λ b. clash (same_refl nil) (subst (λ (v : Words). is_nil v ≡ false) (sym (find-pairs t k (numbered w)) ∙ find_absent (pairs t) k b) n))

  pair-decodes : (k : Words) → has (pairs t) k ≡ true → Decodes k
  unfolding decodes
  pair-decodes k h = key-of-pairs Decodes t (numbered w) (λ n. refl) (each-key Decodes _ t.entries (λ s d. d.0) w.entries_decode) k h

  -- a set of a key that is there writes that pair; a set of Nil elsewhere changes nothing
  set_there : (k v : Words) → has (pairs t) k ≡ true → pairs (set_key room t k v).table ≡ put (pairs t) k v
  unfolding set_key
  set_there k v h =
      caseb (within (length t.array) k)
      (λ b. rw b (pairs-write_array t k v b (numbered w)))
      (λ b. let e : has t.entries k ≡ true = sym (has-pairs t k (numbered w) ∙ rw b) ∙ h in rw (b, e) (pairs-write_entry t k v b (numbered w)))

  set-absent : (k v : Words) → has (pairs t) k ≡ false → is_nil v ≡ true → (set_key room t k v).table ≡ t
  unfolding set_key
  set-absent k v h n =
      let e : (within (length t.array) k || has t.entries k) ≡ false = sym (has-pairs t k (numbered w)) ∙ h in
      caseb (within (length t.array) k)
      (λ b. absurd (true≢false (rw b at e)))
      (λ b. let g : has t.entries k ≡ false = rw b at e in rw (b, g, n))

module _ {room : Room} {t₀ t : Table} {allowed : List Words} {key : Words} {handed : List Entry} {Through : Words → Type 0} (i : Inv room t₀ t allowed key handed Through) where
  pub next-first : next_of t key ≡ first i.after
  next-first = subst (λ (k : Words). next_of t k ≡ first i.after) i.standing (next-standing i.well_formed i.before i.after i.split)

  -- ---- a change that keeps the keys
  changed : {u : Table} → WellFormed room u → keys_of (pairs u) ≡ keys_of (pairs t) → ((k : Words) → is_nil (lookup u k) ≡ false → member allowed k ≡ true)
      → Inv room t₀ u allowed key handed (λ j. (is_nil (get_of u j) ≡ false) × Through j)
  changed {u = u} w e l =
      record {
        well_formed = w;
        before = r.0;
        after = r.1;
        split = r.2;
        standing = rw r.3 i.standing;
        once = i.once;
        new = rw r.4 i.new;
        came = λ j k c q. rw r.3 (i.came j k c q.1);
        now = λ j q. q.0;
        present = rw e i.present;
        settable = l;
        start = i.start;
        among = i.among;
      }
    where
      r : (a : List Entry) × (b : List Entry) × (pairs u ≡ a ++ b) × (keys_of a ≡ keys_of i.before) × (keys_of b ≡ keys_of i.after)
      r = keys-split (pairs u) (keys_of i.before) (keys_of i.after) (e ∙ ap keys_of i.split ∙ keys-append i.before i.after)

  unchanged : {u : Table} → u ≡ t → Inv room t₀ u allowed key handed (λ j. (is_nil (get_of u j) ≡ false) × Through j)
  unchanged p = changed (rw p i.well_formed) (rw p) (rw p i.settable)

  -- a set of Nil, or of a key that may be set
  pub was-set : (j v : Words) → May allowed j v
      → Inv room t₀ (set_of room t j v).table allowed key handed (λ x. (is_nil (get_of (set_of room t j v).table x) ≡ false) × Through x)
  was-set j v m =
      by-set room t j v
      (λ k dk d c q. rw q
      (caseb (has (pairs t) k)
      (λ h. written d k c h)
      (λ h. caseb (is_nil v)
      (λ n. unchanged (set-absent w k v h n))
      (λ n. clash (i.present k (may k c n)) h))))
      (λ n q. unchanged (ap (λ (o : Outcome). o.table) q))
    where
      w : WellFormed room t
      w = i.well_formed

      may : (k : Words) → canonical_key j ≡ Ok k → is_nil v ≡ false → member allowed k ≡ true
      may k c n = rw c at (m n)

      written : Decodes v → (k : Words) → canonical_key j ≡ Ok k → has (pairs t) k ≡ true → Inv room t₀ (set_key room t k v).table allowed key handed (λ x. (is_nil (get_of (set_key room t k v).table x) ≡ false) × Through x)
      written d k c h =
          let u : Table = (set_key room t k v).table in
          let wu : WellFormed room u = set_key-kept room t k v w (pair-decodes w k h) d (canonical-own j k c) in
          let p : pairs u ≡ put (pairs t) k v = set_there w k v h in
          changed wu (ap keys_of p ∙ put-keys (pairs t) k v)
          (λ x n. let now : lookup u x ≡ updated (lookup t) k v x =
          sym (find-pairs u x (numbered wu)) ∙ ap (λ (l : List Entry). find l x) p ∙ find-put (pairs t) k v x h ∙ ap (cond (same k x) v) (find-pairs t x (numbered w)) in
          let g : is_nil (updated (lookup t) k v x) ≡ false = rw now at n in
          caseb (same k x)
          (λ e. subst (λ (y : Words). member allowed y ≡ true) (same-eq k x e) (may k c (rw e at g)))
          (λ e. i.settable x (rw e at g)))

  -- ---- a step
  -- past pairs of Nil nothing is missed: a key with a value throughout that stands before them, or would be one of them, was handed out
  pub passed-by : (l rest : List Entry) → i.after ≡ l ++ rest → first l ≡ last → (j k : Words) → canonical_key j ≡ Ok k → Through j → has (i.before ++ l) k ≡ true → has handed k ≡ true
  passed-by l rest q f j k c th h =
      caseb (has i.before k)
      (λ b. i.came j k c th b)
      (λ b. let e : has l k ≡ true = sym (has-append i.before l k ∙ rw b) ∙ h in
      let g : get_of t j ≡ find l k =
      get_key t j k c ∙ sym (find-pairs t k (numbered i.well_formed)) ∙ ap (λ (m : List Entry). find m k) (i.split ∙ ap (λ (m : List Entry). i.before ++ m) q)
      ∙ find-append-not i.before (l ++ rest) k b ∙ find-append-has l rest k e in
      clash (ap is_nil g ∙ first-last l k f) (i.now j th))

  module _ (k v : Words) (n : next_of t key ≡ found k v) where
    ahead : FirstFound i.after k v
    ahead = first_found i.after k v (sym next-first ∙ n)

    abbrev behind : List Entry
    behind = i.before ++ ahead.passed

    here : pairs t ≡ behind ++ (entry k v ∷ ahead.rest)
    here = i.split ∙ ap (λ (l : List Entry). i.before ++ l) ahead.is ∙ sym (append_assoc i.before ahead.passed (entry k v ∷ ahead.rest))

    held : lookup t k ≡ v
    held =
        sym (find-pairs t k (numbered i.well_formed)) ∙ ap (λ (l : List Entry). find l k) here
        ∙ caseb (has behind k)
        (λ b. clash (rw (same_refl k)) (apart behind (entry k v ∷ ahead.rest) k (rw here at (pairs-apart i.well_formed)) b))
        (λ b. find-append-not behind (entry k v ∷ ahead.rest) k b ∙ rw (same_refl k))

    pub stepped : Inv room t₀ t allowed k (entry k v ∷ handed) Through
    stepped =
        record {
          well_formed = i.well_formed;
          before = behind ++ (entry k v ∷ []);
          after = ahead.rest;
          split = split;
          standing = last_snoc nil behind (entry k v);
          once = (i.new k (rw ahead.is (has-middle ahead.passed (entry k v) ahead.rest)), i.once);
          new = new;
          came = λ j x c th h. came j x c th (has-snoc behind k v x h);
          now = i.now;
          present = i.present;
          settable = i.settable;
          start = i.start;
          among = λ x h. among x (or_cases (same k x) (has handed x) h);
        }
      where
        split : pairs t ≡ (behind ++ (entry k v ∷ [])) ++ ahead.rest
        split = here ∙ sym (append_assoc behind (entry k v ∷ []) ahead.rest)

        new : (x : Words) → has ahead.rest x ≡ true → (same k x || has handed x) ≡ false
        new x h =
            caseb (same k x)
            (λ e. clash h (apart (behind ++ (entry k v ∷ [])) ahead.rest x (rw split at (pairs-apart i.well_formed)) (has-append behind (entry k v ∷ []) x ∙ or_right (has behind x) (same k x || false) (rw e))))
            (λ e. rw e (i.new x (rw (ahead.is, has-append ahead.passed (entry k v ∷ ahead.rest) x) (or_right (has ahead.passed x) (same k x || has ahead.rest x) (or_right (same k x) (has ahead.rest x) h)))))

        came : (j x : Words) → canonical_key j ≡ Ok x → Through j → (has behind x ≡ true) ⊎ (k ≡ x) → (same k x || has handed x) ≡ true
        came j x c th (inl h) = or_right (same k x) (has handed x) (passed-by ahead.passed (entry k v ∷ ahead.rest) ahead.is ahead.none j x c th h)
        came j x c th (inr p) = rw (eq-same k x p)

        among : (x : Words) → (same k x ≡ true) ⊎ (has handed x ≡ true) → member (live_keys t₀) x ≡ true
        among x (inl e) = subst (λ (y : Words). member (live_keys t₀) y ≡ true) (same-eq k x e) (i.start k (i.settable k (rw held ahead.value)))
        among x (inr h) = i.among x h

    pub shows : (get_of t k ≡ v) × (is_nil v ≡ false) × (has handed k ≡ false)
    shows = (
      get_key t k k (pair-canonical k i.well_formed (rw here (has-middle behind (entry k v) ahead.rest))) ∙ held,
      ahead.value,
      stepped.once.0,
    )

-- ---- the start
pub begun : {room : Room} {t₀ : Table} → WellFormed room t₀ → Inv room t₀ t₀ (live_keys t₀) nil [] (λ j. is_nil (get_of t₀ j) ≡ false)
unfolding live_keys
begun {t₀ = t₀} w =
    record {
      well_formed = w;
      before = [];
      after = pairs t₀;
      split = refl;
      standing = refl;
      once = tt;
      new = λ k h. refl;
      came = λ j k c q h. h;
      now = λ j q. q;
      present = λ k h. caseb (has (pairs t₀) k) (λ b. b) (λ b. clash h (has-keep live (pairs t₀) k b));
      settable = λ k n. (next-lists t₀ w).1.keys k ∙ ap not n;
      start = λ k h. h;
      among = λ k h. absurd (true≢false (sym h));
    }
