-- P1 to P11 and the other rows, under one claim, by computation. Assumes nothing.
use mathlib.Core.Path.{◌≡◌, refl}
use mathlib.Core.Bool.{true}
use lib.Count.{count_trailing_zeros}
use lib.Ieee.{of_bits, of_fields, odd, nan_bits}
use Rattle.value.specs.Encoding.{decodes}
use Rattle.value.specs.Same.{same}
use Rattle.key.specs.Canonical.{whole_of, number_key, canonical_key, array_index}
use Rattle.model.specs.Table.{within, pairs, lookup, get_of, next_of}
use Rattle.model.specs.Growth.{candidates, best, optimal_size, stays, rehashed}
use Rattle.model.specs.Calls.{place_in, grow, set_key, set_of, reserve_of}
use Rattle.model.specs.Length.{halve, double, length_of}
use Rattle.model.specs.Rows.{every, rows}

pub claim : every rows ≡ true
unfolding count_trailing_zeros of_bits of_fields odd nan_bits decodes same whole_of number_key canonical_key array_index within pairs lookup get_of next_of candidates best optimal_size stays rehashed place_in grow set_key set_of reserve_of halve double length_of
claim = refl
