-- What each way through a record's tests comes to, the tests as facts about numbers. Assumes nothing.
use mathlib.Core.Path.{◌≡◌, ◌∙◌}
use mathlib.Core.Bool.{true}
use mathlib.Core.List.{List}
use Prim.Native.Nat.{ℕ, ◌≤◌, ◌<◌}
use lib.Dec.{leb}
use lib.ListN.{length}
use borrow.Author.Tests.{lt-ltb, le-ltb, le-leb, eq-eqb, ne_eqb}
use native.Mathlib.Omega.{arith}
use Rattle.std.specs.Prelude.{None, Some, Ok, Err}
use Rattle.std.specs.Result.{result_map_both}
use Rattle.records.specs.declared.Fault.TheVariants.{WrongLength}
use Rattle.records.specs.Requests.{record_size, body_reading, kind_in, body_in, record_reading, reading, is_whole}

-- ---- the whole input
pub reads_end : (bs : List ℕ) → length bs ≡ 0 → reading bs ≡ Ok None
unfolding reading
reads_end bs h = rw (eq-eqb (length bs) 0 h)

module _ (bs : List ℕ) (two : 2 ≤ length bs) where
  reads-record : reading bs ≡ record_reading bs
  unfolding reading
  reads-record = rw (ne_eqb (length bs) 0 (λ e. omega arith), ne_eqb (length bs) 1 (λ e. omega arith))

  pub reads_short : record_size bs < 4 → reading bs ≡ Err WrongLength
  reads_short h = reads-record ∙ rw (lt-ltb (record_size bs) 4 h)

  pub reads-body : 4 ≤ record_size bs → record_size bs ≤ length bs → reading bs ≡ result_map_both Some (λ f. f) (body_reading (kind_in bs) (body_in bs))
  reads-body h g = reads-record ∙ rw (le-ltb (record_size bs) 4 h, le-ltb (length bs) (record_size bs) g)

  -- ---- whether it is whole
  pub whole-short : record_size bs < 4 → is_whole bs ≡ true
  unfolding is_whole
  whole-short g = rw (le-leb 2 (length bs) two, lt-ltb (record_size bs) 4 g)

  pub whole-body : 4 ≤ record_size bs → is_whole bs ≡ leb (record_size bs) (length bs)
  unfolding is_whole
  whole-body g = rw (le-leb 2 (length bs) two, le-ltb (record_size bs) 4 g)
