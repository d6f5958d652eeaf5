-- What the promises of the calls with Values come to. On a sound store, and where the shape is wrong, they leave no answer and no word open;
-- on a sound store the Values that are answered are those that the table's words stand for, and what `next` hands out is stored as those
-- words; a set keeps the store sound; and refusal 15 never comes. `Typed` is what the program's types say of a Value. Assumes nothing.
use mathlib.Core.Path.{◌≡◌, sym, ap, ap₂, subst, ◌∙◌}
use mathlib.Core.Bool.{true}
use mathlib.Core.Logic.{◌⊎◌, inl, inr}
use Rattle.value.specs.declared.Value.{Value}
use Rattle.value.specs.declared.Words.{Words}
use Rattle.value.specs.Encoding.{encoded, decoded, value_of, Typed}
use Rattle.value.proofs.Cases.{never, clash}
use Rattle.value.proofs.RoundTrip.{encoded-decodes, value_read, read-stored}
use Rattle.key.specs.Canonical.{canonical_key, on_key}
use Rattle.model.specs.Entries.{found}
use Rattle.model.specs.Table.{get_of, next_of}
use Rattle.model.specs.Calls.{Outcome, are_values}
use Rattle.model.proofs.Kept.{get-decodes, previous-decodes, next-decodes}
use Rattle.store.specs.declared.Record.{Record}
use Rattle.store.specs.Store.{Slices, Store, store, room_for}
use Rattle.store.specs.Shape.{Shaped}
use Rattle.store.specs.Written.{Sound, table_of}
use Rattle.store.proofs.Sound.{sound-formed}
use Rattle.store.proofs.Sized.{next-sized}
use Rattle.reads.specs.Reads.{Refuses, GetAnswers, NextAnswers}
use Rattle.reads.proofs.Unique as reads
use Rattle.writes.specs.Writes.{Left, RoomOnly, set_outcome, SetDone}
use Rattle.writes.proofs.Unique as writes
use Rattle.table.specs.Values.{got_of, stored_of, next_value_of, GetValue, SetValue, NextOfValue}
use Rattle.std.specs.Prelude.{Result, Ok, Err}
use Rattle.value.specs.declared.refusal.Refusal.{Refusal}
use Rattle.reads.specs.declared.Next.{Next}
use Rattle.reads.specs.declared.Next.TheVariants.{Found, Last, NotFound}
use Rattle.value.specs.Refusals.{refusal_number}

-- ---- one answer
module _ (s : Store) (w : Sound s ⊎ (Shaped s → ⊥)) (key : Value) where
  pub get-unique : (r r' : Result Value Refusal) → GetValue s key r → GetValue s key r' → r ≡ r'
  get-unique r r' p q = p.2 ∙ ap got_of (reads.get-unique s (encoded key) p.0 q.0 w p.1 q.1) ∙ sym q.2

  pub next-unique : (r r' : Result (Next Value) Refusal) → NextOfValue s key r → NextOfValue s key r' → r ≡ r'
  next-unique r r' p q = p.2 ∙ ap next_value_of (reads.next-unique s (encoded key) p.0 q.0 w p.1 q.1) ∙ sym q.2

  pub set-unique : (v : Value) (a b : Slices) (r t : Result (Value × Record) Refusal) → SetValue s key v a r → SetValue s key v b t → (a ≡ b) × (r ≡ t)
  set-unique v a b r t p q =
      let u = writes.set-unique s (encoded key) (encoded v) a b p.0 q.0 w p.1 q.1 in
      (u.0, p.2 ∙ ap stored_of u.1 ∙ sym q.2)

-- ---- true readings of a sound store
module _ {s : Store} (S : Sound s) (key : Value) where
  pub get-read : Typed key → (r : Result Value Refusal) → GetValue s key r → (v : Value) × (r ≡ Ok v) × (decoded (get_of (table_of s) (encoded key)) ≡ Ok v)
  get-read t r p =
      let w : Words = get_of (table_of s) (encoded key) in
      (value_of w, p.2 ∙ ap got_of (reads.get-done s (encoded key) p.0 p.1 S (encoded-decodes key t)), value_read w (get-decodes (room_for s) (table_of s) (encoded key) (sound-formed s S)))

  next-found : (k v : Value) → NextOfValue s key (Ok (Found k v))
      → (a : Words) × (b : Words) × NextAnswers s (encoded key) (Ok (Found a b)) × (decoded a ≡ Ok k) × (decoded b ≡ Ok v)
  next-found k v p = go p.0 p.1 p.2
    where
      go : (w : Result (Next Words) Refusal) → NextAnswers s (encoded key) w → Ok (Found k v) ≡ next_value_of w
          → (a : Words) × (b : Words) × NextAnswers s (encoded key) (Ok (Found a b)) × (decoded a ≡ Ok k) × (decoded b ≡ Ok v)
      go (Ok (Found a b)) p e =
          let d = next-decodes (room_for s) (table_of s) (encoded key) a b (sound-formed s S) (p.2 S) in
          let ka : value_of a ≡ k = cc in
          let vb : value_of b ≡ v = cc in
          (a, b, p, value_read a d.0 ∙ ap Ok ka, value_read b d.1 ∙ ap Ok vb)
      go (Ok Last) p e = never (cc)
      go (Ok NotFound) p e = never (cc)
      go (Err n) p e = never (cc)

  pub next-read : (k v : Value) → NextOfValue s key (Ok (Found k v))
      → (a : Words) × (b : Words) × (next_of (table_of s) (encoded key) ≡ found a b) × (decoded a ≡ Ok k) × (decoded b ≡ Ok v)
  next-read k v p = let x = next-found k v p in (x.0, x.1, x.2.2 S, x.3, x.4)

  -- what is handed out, stored, is what the table has; and read again it is what was handed out
  pub next-words : (k v : Value) → NextOfValue s key (Ok (Found k v)) → NextAnswers s (encoded key) (Ok (Found (encoded k) (encoded v)))
  next-words k v p =
      let x = next-found k v p in
      let l = next-sized S (encoded key) x.0 x.1 (x.2.2 S) in
      (x.2.0, x.2.1, λ S. x.2.2 S ∙ ap₂ found (sym (read-stored x.0 k l.0 x.3)) (sym (read-stored x.1 v l.1 x.4)))

  pub next-again : (k v : Value) → NextOfValue s key (Ok (Found k v)) → (value_of (encoded k) ≡ k) × (value_of (encoded v) ≡ v)
  next-again k v p =
      let e : Ok (Found k v) ≡ Ok (Found (value_of (encoded k)) (value_of (encoded v))) =
      p.2 ∙ ap next_value_of (reads.next-unique s (encoded key) p.0 (Ok (Found (encoded k) (encoded v))) (inl S) p.1 (next-words k v p)) in
      (cc, cc)

-- ---- a set that was done
module _ (s : Store) (key v p : Value) (after : Slices) (x : Record) (d : SetValue s key v after (Ok (p, x))) where
  -- on words
  pub set_words : (q : Words) × SetDone s (encoded key) (encoded v) after (Ok (q, x)) × (p ≡ value_of q)
  set_words = go d.0 d.1 d.2
    where
      go : (w : Result (Words × Record) Refusal) → SetDone s (encoded key) (encoded v) after w → Ok (p, x) ≡ stored_of w
          → (q : Words) × SetDone s (encoded key) (encoded v) after (Ok (q, x)) × (p ≡ value_of q)
      go (Ok (q, y)) a e =
          let h : ◌≡◌ {A = Value × Record} (p, x) (value_of q, y) = cc in
          (q, subst (λ (z : Record). SetDone s (encoded key) (encoded v) after (Ok (q, z))) (sym (ap (λ (r : Value × Record). r.1) h)) a, ap (λ (r : Value × Record). r.0) h)
      go (Err n) a e = never (cc)

  pub set-read : Sound s → decoded (set_outcome s (encoded key) (encoded v)).previous ≡ Ok p
  set-read S =
      let o : Outcome = set_outcome s (encoded key) (encoded v) in
      let e : set_words.0 ≡ o.previous = ap (λ (l : Left). l.previous) (set_words.1.does.sound S) in
      value_read o.previous (previous-decodes (room_for s) (table_of s) (encoded key) (encoded v) (sound-formed s S)) ∙ ap Ok (sym (set_words.2 ∙ ap value_of e))

  pub set-sound : Sound s → Sound (store after x)
  set-sound S = set_words.1.kept S

-- ---- with Values 15 never comes: a read is refused where the shape is wrong, and a set for its key or for want of room
module _ (s : Store) (key : Value) (t : Typed key) (r : Refusal) where
  pub get-numbers : GetValue s key (Err r) → Refuses s r
  get-numbers p = go p.0 p.1 p.2
    where
      go : (w : Result Words Refusal) → GetAnswers s (encoded key) w → Err r ≡ got_of w → Refuses s r
      go (Ok v) p e = never (cc)
      go (Err m) (inl p) e = let h : r ≡ m = cc in (p.0, h ∙ p.1)
      go (Err m) (inr p) e = clash (encoded-decodes key t) p.1

  pub next-numbers : NextOfValue s key (Err r) → Refuses s r
  next-numbers p = go p.0 p.1 p.2
    where
      go : (w : Result (Next Words) Refusal) → NextAnswers s (encoded key) w → Err r ≡ next_value_of w → Refuses s r
      go (Ok (Found a b)) p e = never (cc)
      go (Ok Last) p e = never (cc)
      go (Ok NotFound) p e = never (cc)
      go (Err m) (inl p) e = let h : r ≡ m = cc in (p.0, h ∙ p.1)
      go (Err m) (inr p) e = clash (encoded-decodes key t) p.1

  pub set-numbers : (v : Value) → Typed v → (after : Slices) → SetValue s key v after (Err r) → Shaped s
      → on_key (canonical_key (encoded key)) (λ n. refusal_number r ≡ n) (λ k. RoomOnly (refusal_number r))
  set-numbers v u after p h = go p.0 p.1 p.2
    where
      both : are_values (encoded key) (encoded v) ≡ true
      both = rw (encoded-decodes key t) (encoded-decodes v u)

      go : (w : Result (Words × Record) Refusal) → SetDone s (encoded key) (encoded v) after w → Err r ≡ stored_of w → on_key (canonical_key (encoded key)) (λ n. refusal_number r ≡ n) (λ k. RoomOnly (refusal_number r))
      go (Ok (q, y)) a e = never (cc)
      go (Err m) a e = let i : m ≡ r = cc in let g = a.right h in rw (both, i) at g
