-- The definitions of this crate and those below, as one name for the `unfolding` line of a computed example.
use Rattle.std.specs.Prelude.{ℕ}
use Rattle.rules.specs.Computing.{rules_compute}
use Rattle.assertion.specs.Computing.{assertion_computes}
use Rattle.filter.specs.Filter.{depth, items}
use Rattle.filter.specs.Parse.{head_at, tail_at, filter_from, filter_at, filter_fits, whole, parse_within}

unfoldable pub filter_computes : ℕ
unfolding rules_compute assertion_computes depth items head_at tail_at filter_from filter_at filter_fits whole parse_within
filter_computes = 0
