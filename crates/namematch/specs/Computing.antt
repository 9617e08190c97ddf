-- The definitions of this crate and those below, as one name for the `unfolding` line of a computed example.
use Rattle.std.specs.Prelude.{ℕ}
use Rattle.strings.specs.Inner.Comparing.{folded}
use Rattle.names.specs.Computing.{names_compute}
use Rattle.names.specs.Inner.Operand.{attributes_octets, name_octets, attributes_back, start_back, rdns_back}
use Rattle.namematch.specs.Inner.Marks.{unused, marked}

unfoldable pub matching_computes : ℕ
unfolding names_compute folded attributes_octets name_octets attributes_back start_back rdns_back unused marked
matching_computes = 0
