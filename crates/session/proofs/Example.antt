-- 01's whole example, by computation. Assumes nothing.
use mathlib.Core.Path.{◌≡◌, refl}
use lib.Count.{count_trailing_zeros}
use lib.Ieee.{of_bits, of_fields, odd, nan_bits}
use Rattle.value.specs.Encoding.{decodes}
use Rattle.value.specs.Same.{same}
use Rattle.key.specs.Canonical.{whole_of, number_key, canonical_key, array_index}
use Rattle.model.specs.Table.{fresh, within, pairs, lookup, get_of, next_of}
use Rattle.model.specs.Growth.{candidates, best, optimal_size, stays, rehashed}
use Rattle.model.specs.Calls.{place_in, grow, set_key, set_of, reserve_of}
use Rattle.records.specs.Bytes.{number, little_endian}
use Rattle.records.specs.Requests.{reading}
use Rattle.session.specs.Room.{trace_room}
use Rattle.session.specs.Example.{whole_input, whole_output}
use Rattle.session.specs.Trace.{traced, trace_of}

pub whole-example : trace_of trace_room fresh whole_input ≡ whole_output
unfolding count_trailing_zeros of_bits of_fields odd nan_bits decodes same whole_of number_key canonical_key array_index within pairs lookup get_of next_of candidates best optimal_size stays rehashed place_in grow set_key set_of reserve_of number little_endian reading traced
whole-example = refl
