-- The rows hold, under one claim, by computation. Assumes nothing.
use mathlib.Core.Path.{◌≡◌, refl}
use mathlib.Core.List.{map}
use Rattle.std.specs.Result.{result_map_both}
use Rattle.value.specs.Encoding.{decodes}
use Rattle.records.specs.Bytes.{number}
use Rattle.records.specs.Requests.{fault_number, reading}
use Rattle.records.specs.Rows.{Row, rows}

pub claim : map (λ (r : Row). result_map_both (λ q. q) fault_number (reading r.bytes)) rows ≡ map (λ (r : Row). r.wants) rows
unfolding decodes number reading
claim = refl
