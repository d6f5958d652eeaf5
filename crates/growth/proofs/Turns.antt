-- Entries counted one after the other, whatever the entry of a place is: an entry word's, or an array value's with its key. Assumes nothing.
use Rattle.std.proofs.Common.{◌≡◌, ℕ, suc, ◌+◌, ◌≤◌, true, false, List, [], ◌∷◌, ◌++◌, length, ap, ◌∙◌, zero-add, add-one, arith}
use Rattle.value.specs.Same.{is_nil}
use Rattle.key.specs.Canonical.{array_index}
use Rattle.model.specs.Entries.{Entry}
use Rattle.model.specs.Growth.{with_index, indices, tabulate}
use Rattle.model.proofs.Entries.{length-tabulate, tabulate-snoc}
use Rattle.growth.specs.Counts.{Counted}
use Rattle.growth.proofs.Tally.{indices-append, indices-le}
use Rattle.growth.proofs.Steps.{counted_none, counted-then}

module _ (f : ℕ → Entry) where
  -- the indices of the first n
  abbrev pub firsts : ℕ → List ℕ
  firsts n = indices (tabulate n f 0)

  pub firsts-next : (n : ℕ) → firsts (suc n) ≡ firsts n ++ indices (f n ∷ [])
  firsts-next n =
      ap indices (tabulate-snoc n f 0)
      ∙ indices-append (tabulate n f 0) (f (0 + n) ∷ [])
      ∙ ap (λ (j : ℕ). firsts n ++ indices (f j ∷ [])) (zero-add n)

  pub firsts-le : (n : ℕ) → length (firsts n) ≤ n
  firsts-le n = omega (arith, indices-le (tabulate n f 0), length-tabulate n f 0)

  pub turn-nil : {c c' : List ℕ} (n : ℕ) → Counted (firsts n) c c' → is_nil (f n).value ≡ true → Counted (firsts (n + 1)) c c'
  turn-nil n s e = rw (add-one n, firsts-next n, e) (counted-then (firsts n) [] s (counted_none _ s.long))

  pub turn-live : {c c' c'' : List ℕ} (n : ℕ) → Counted (firsts n) c c' → is_nil (f n).value ≡ false → Counted (with_index (array_index (f n).key) []) c' c''
      → Counted (firsts (n + 1)) c c''
  turn-live n s e t = rw (add-one n, firsts-next n, e) (counted-then (firsts n) _ s t)
