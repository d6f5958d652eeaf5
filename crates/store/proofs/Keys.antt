-- A key in the entries, by what a search of a right index answers: whether the table has it, and its value. Assumes nothing.
use mathlib.Core.Path.{◌≡◌, sym, ap, ◌∙◌}
use mathlib.Core.Bool.{Bool, true, false}
use mathlib.Core.List.{List}
use Prim.Native.Nat.{ℕ, ◌+◌, ◌*◌, ◌<◌}
use native.Mathlib.Omega.{arith}
use lib.ListN.{length, get_or}
use Rattle.value.specs.declared.Words.{Words}
use Rattle.value.specs.Same.{nil}
use Rattle.lent.specs.Lent.{value_at, key_at}
use Rattle.index.specs.declared.Found.{Found}
use Rattle.index.specs.declared.Found.TheVariants.{At, Absent, Full}
use Rattle.index.specs.Index.{Distinct}
use Rattle.index.specs.Search.{Finds}
use Rattle.model.specs.Entries.{Entry, entry, has, find}
use Rattle.model.proofs.Entries.{find_absent, length-tabulate, tabulate-at}
use Rattle.model.proofs.Places.{has-place, find-place, has-nowhere}
use Rattle.store.specs.Written.{entry_at, entries_in}
use Rattle.store.proofs.Views.{distinct-read}

-- what an answer of the search comes to: whether there is an entry, and its value
abbrev pub there_by : Found → Bool
there_by (At i) = true
there_by (Absent p) = false
there_by Full = false

abbrev pub value_by : List ℕ → Found → Words
value_by ws (At i) = value_at ws (2 * i + 1)
value_by ws (Absent p) = nil
value_by ws Full = nil

module _ (ws : List ℕ) (e : ℕ) (l : List ℕ) (k : Words) where
  abbrev es : List Entry
  es = entries_in ws e

  len : length es ≡ e
  len = length-tabulate e (entry_at ws) 0

  at : (i : ℕ) → i < e → get_or es i (entry nil nil) ≡ entry_at ws i
  at i h = tabulate-at e (entry_at ws) (entry nil nil) i h

  key-at : (i : ℕ) → i < e → (get_or es i (entry nil nil)).key ≡ key_at ws i
  key-at i h = ap (λ (s : Entry). s.key) (at i h)

  -- an entry that is answered has the key
  pub inside-by : (i : ℕ) → Finds ws e l k (At i) → i < length es
  inside-by i a = omega (arith, len, a.0)

  pub key-by : (i : ℕ) → Finds ws e l k (At i) → (get_or es i (entry nil nil)).key ≡ k
  key-by i a = key-at i a.0 ∙ a.1

  pub has-by : (r : Found) → Finds ws e l k r → has es k ≡ there_by r
  has-by (At i) a = has-place es i k (inside-by i a) (key-by i a)
  has-by (Absent p) a = has-nowhere es k (λ i h q. let g : i < e = omega (arith, len) in a.0 i g (sym (key-at i g) ∙ q))
  has-by Full a = absurd a

  pub find-by : Distinct ws e → (r : Found) → Finds ws e l k r → find es k ≡ value_by ws r
  find-by d (At i) a =
      find-place es i k (distinct-read ws e d) (inside-by i a) (key-by i a) ∙ ap (λ (s : Entry). s.value) (at i a.0)
  find-by d (Absent p) a = find_absent es k (has-by (Absent p) a)
  find-by d Full a = absurd a
