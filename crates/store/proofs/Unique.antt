-- One store for a table in slices of given lengths: soundness leaves no word open, and `fresh` has one outcome. Assumes nothing.
use mathlib.Core.Path.{◌≡◌, refl, sym, ap, subst, ◌∙◌}
use mathlib.Core.List.{List}
use Prim.Native.Nat.{ℕ, ◌-◌}
use native.Mathlib.Nat.{sub-zero}
use lib.ListN.{replicate}
use Rattle.lent.specs.Lent.{lent_words}
use Rattle.lent.proofs.Lent.{zeros-sized}
use Rattle.index.specs.Index.{index_of}
use Rattle.value.specs.Refusals.{wrong_shape, refusal_number, answer_number}
use Rattle.model.specs.Table.{fresh}
use Rattle.model.proofs.Kept.{fresh_kept}
use Rattle.store.specs.declared.Record.{Record}
use Rattle.store.specs.Store.{Slices, slices, Store, store, Lengths, lengths_of, room_of}
use Rattle.store.specs.Shape.{RightLengths}
use Rattle.store.specs.Written.{written, Sound}
use Rattle.store.specs.Fresh.{FreshMade}
use Rattle.store.proofs.Sound.{right-fair, written-sound}
use Rattle.std.specs.Prelude.{Result, Ok, Err}
use Rattle.value.specs.declared.refusal.Refusal.{Refusal}

pub unique : (s s' : Store) (S : Sound s) (S' : Sound s') → lengths_of s.slices ≡ lengths_of s'.slices → S.table ≡ S'.table → s ≡ s'
unique s s' S S' p q = S.is ∙ (λ j. written (p j) (q j)) ∙ sym S'.is

-- ---- a fresh store
pub fresh-written : (l : Lengths) {aw ew iw : List ℕ} → aw ≡ replicate l.array 0 → ew ≡ replicate l.entries 0 → iw ≡ replicate l.index 0
    → store (slices aw ew iw) (record { size = 0; allowance = 0; count = 0 }) ≡ written l fresh
unfolding written lent_words index_of
fresh-written l p q r = (λ j. store (slices (p j) (q j) (r j)) (record { size = 0; allowance = 0; count = 0 })) ∙ rw (sub-zero l.array, sub-zero l.entries)

pub fresh-made-sound : (before after : Slices) (r : Record) → FreshMade before after (Ok r) → Sound (store after r)
unfolding written lent_words
fresh-made-sound before after r f =
    let l : Lengths = lengths_of before in
    subst Sound (sym f.1) (written-sound l fresh f.0 (fresh_kept (room_of l) (right-fair l f.0)) (zeros-sized (l.array - 0)) (zeros-sized (l.entries - 0)))

pub fresh-done : (before after : Slices) (m : Result Record Refusal) → FreshMade before after m → RightLengths (lengths_of before) → answer_number m ≡ 0
fresh-done before after (Ok r) f h = refl
fresh-done before after (Err e) f h = absurd (f.0 h)

pub fresh-refused : (before after : Slices) (m : Result Record Refusal) → FreshMade before after m → (RightLengths (lengths_of before) → ⊥) → answer_number m ≡ wrong_shape
fresh-refused before after (Ok r) f h = absurd (h f.0)
fresh-refused before after (Err e) f h = ap refusal_number f.1

pub fresh-unique : (before a a' : Slices) (r r' : Result Record Refusal) → FreshMade before a r → FreshMade before a' r' → (a ≡ a') × (r ≡ r')
fresh-unique before a a' (Ok r) (Ok r') f g =
    let p : store a r ≡ store a' r' = f.1 ∙ sym g.1 in (ap (λ (s : Store). s.slices) p, ap (λ (s : Store). Ok s.sizes) p)
fresh-unique before a a' (Ok r) (Err e) f g = absurd (g.0 f.0)
fresh-unique before a a' (Err e) (Ok r) f g = absurd (f.0 g.0)
fresh-unique before a a' (Err e) (Err e') f g = (f.2 ∙ sym g.2, ap Err (f.1 ∙ sym g.1))
