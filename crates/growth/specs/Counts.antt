-- Class counts (01, 'Growth', steps 1 and 2): how many of some indices each class has, and the size that growth gives the array. Assumes
-- nothing.
use Rattle.std.specs.Prelude.{◌≡◌, cond, List, ℕ, zero, suc, ◌+◌, ◌≤◌, ◌<◌, max, length, get_or, Option, Some, None}
use Rattle.std.specs.Float.Ieee.{size}
use Rattle.value.specs.declared.Words.{Words}
use Rattle.value.specs.Same.{is_nil}
use Rattle.lent.specs.Lent.{value_at}
use Rattle.model.specs.Growth.{tally, optimal_size}
use Rattle.store.specs.Limits.{class_counts}
use Rattle.store.specs.Store.{Store, room_for}
use Rattle.store.specs.Written.{table_of}

-- the class of an index; a number that is no class where there is none
abbrev pub class_of : Option ℕ → ℕ
class_of (Some i) = size i
class_of None = class_counts

-- c' is c with these indices counted; those of a class that has no count are left out
pub record Counted (l : List ℕ) (c c' : List ℕ) : Type 0 where
  pub long : length c' ≡ class_counts
  pub each : (k : ℕ) → k < class_counts → get_or c' k 0 ≡ get_or c k 0 + tally k l

-- counts with these indices and no others
abbrev pub Holds : List ℕ → List ℕ → Type 0
Holds l c = (k : ℕ) → k < class_counts → get_or c k 0 ≡ tally k l

-- counts of at most n each
pub record AtMost (n : ℕ) (c : List ℕ) : Type 0 where
  pub long : length c ≡ class_counts
  pub each : (k : ℕ) → get_or c k 0 ≤ n

-- how many of the d values from a place on are not Nil
unfoldable pub count_of_values : List ℕ → ℕ → ℕ → ℕ
count_of_values ws from zero = 0
count_of_values ws from (suc d) = count_of_values ws from d + cond (is_nil (value_at ws (from + d))) 0 1

-- the array's size after growth for a new key
abbrev pub GrownSize : Store → Words → ℕ → Type 0
GrownSize s k r = r ≡ max s.sizes.size (optimal_size (room_for s) (table_of s) k)
