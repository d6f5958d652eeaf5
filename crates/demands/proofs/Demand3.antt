-- Demand 3 on stores: a walk on a store is a walk on its table, in the same room, and so all is promised of it that is proved there.
-- Assumes nothing.
use mathlib.Core.Path.{◌≡◌, refl, sym, ap, subst, ◌∙◌}
use mathlib.Core.Bool.{false}
use mathlib.Core.List.{List}
use mathlib.Core.Logic.{inl, inr}
use Rattle.value.specs.declared.Words.{Words}
use Rattle.value.specs.Encoding.{decodes, Decodes}
use Rattle.value.specs.Same.{is_nil}
use Rattle.value.proofs.Cases.{caseb, clash}
use Rattle.model.specs.Entries.{Entry}
use Rattle.model.specs.Table.{get_of}
use Rattle.model.specs.Calls.{set_of}
use Rattle.model.proofs.Kept.{nil-decodes, next-decodes}
use Rattle.walk.specs.History.{History, Throughout as ThroughHistory, begin as begins, set as sets, step as steps}
use Rattle.walk.proofs.Walk.{walk}
use Rattle.store.specs.Store.{Store, lengths_of, room_of, room_for}
use Rattle.store.specs.Written.{Sound, table_of}
use Rattle.store.proofs.Sound.{sound-formed, sound-shaped}
use Rattle.reads.specs.Reads.{in_words, NextAnswers}
use Rattle.reads.proofs.Unique.{get-done, next-done}
use Rattle.demands.specs.Walks.{Walking, begin, still, set, step, Has, Throughout, StoreWalked}
use Rattle.table.proofs.Outcomes.{is_get, table_is, set-stays}
use Rattle.std.specs.Prelude.{Ok, Err}
use Rattle.reads.specs.declared.Next.TheVariants.{Found}
use Rattle.value.specs.declared.refusal.Refusal.TheVariants.{NoValue}

-- a walk on a store as a history of its table; the key that it goes on from is a value's
record Follows (s₀ s : Store) (allowed : List Words) (key : Words) (handed : List Entry) (Through : Words → Type 0) : Type 0 where
  sound : Sound s
  lengths : lengths_of s.slices ≡ lengths_of s₀.slices
  keyed : Decodes key
  history : History (room_for s₀) (table_of s₀) (table_of s) allowed key handed
  through : (j : Words) → Through j → ThroughHistory history j

has_value : {s : Store} → Sound s → (j : Words) → Has s j → is_nil (get_of (table_of s) j) ≡ false
has_value {s = s} S j h = caseb (decodes j) (λ d. h (Ok _) (is_get S j d)) (λ d. absurd (h (Err NoValue) (inr (sound-shaped s S, d, refl))))

found-decodes : {s : Store} → Sound s → (key k v : Words) → NextAnswers s key (Ok (Found k v)) → Decodes k
found-decodes {s = s} S key k v n = (next-decodes (room_for s) (table_of s) key k v (sound-formed s S) (n.2 S)).0

follows : {s₀ s : Store} {allowed : List Words} {key : Words} {handed : List Entry} → Sound s₀ → (w : Walking s₀ s allowed key handed)
    → Follows s₀ s allowed key handed (Throughout w)
follows S begin = record { sound = S; lengths = refl; keyed = nil-decodes; history = begins; through = has_value S }
follows {s₀ = s₀} {allowed = allowed} {key = key} {handed = handed} S (still e w) =
    subst (λ (x : Store). Follows s₀ x allowed key handed (Throughout w)) (sym e) (follows S w)
follows S (set {s = s} k v after r p m w) =
    let f = follows S w in
    let n = set-stays k v f.sound p in
    record {
      sound = n.sound;
      lengths = n.lengths ∙ f.lengths;
      keyed = f.keyed;
      history = sets k v m (table_is f.sound p ∙ (λ j. (set_of (room_of (f.lengths j)) (table_of s) k v).table)) f.history;
      through = λ j a. (has_value n.sound j a.0, f.through j a.1);
    }
follows S (step {key = key} k v n w) =
    let f = follows S w in
    record { sound = f.sound; lengths = f.lengths; keyed = found-decodes f.sound key k v n; history = steps k v (n.2 f.sound) f.history; through = f.through }

pub demand3 : {s₀ s : Store} {allowed : List Words} {key : Words} {handed : List Entry} → Sound s₀ → (w : Walking s₀ s allowed key handed)
    → StoreWalked s₀ s key handed (Throughout w)
demand3 {s₀ = s₀} {s = s} {key = key} S w =
    let f = follows S w in
    let T = f.sound in
    let m = walk (sound-formed s₀ S) f.history in
    record {
      sound = T;
      there = λ p. m.there (p.2 T);
      answered = λ n p. elim p [ inl a ↦ a.0 (sound-shaped s T) | inr a ↦ clash f.keyed a.1 ];
      once = m.once;
      shows = λ k v p. let x = m.shows k v (p.2 T) in (λ a g. get-done _ k a g T (found-decodes T key k v p) ∙ ap Ok x.0, x.1, x.2);
      few = m.few;
      ends = λ a e p. next-done _ key a p T f.keyed ∙ ap (λ n. Ok (in_words n)) (m.ends e);
      all = λ p j k c t. m.all (p.2 T) j k c (f.through j t);
    }
