-- The definitions of this crate and those below, as one name for the `unfolding` line of a computed example.
use Rattle.std.specs.Prelude.{ℕ}
use Rattle.types.specs.Computing.{table_computes}
use Rattle.value.specs.Value.{spot_at, encoding}
use Rattle.value.specs.Order.{rising}
use Rattle.value.specs.Decode.{in_wrapper, starts_here, many, unwrapped, decode, stored_value}
use Rattle.value.specs.Check.{value_fits, is_stored, storage, value_report}
use Rattle.value.specs.Part.{part_report}

unfoldable pub value_computes : ℕ
unfolding table_computes spot_at encoding rising in_wrapper starts_here many unwrapped decode stored_value value_fits is_stored storage value_report part_report
value_computes = 0
