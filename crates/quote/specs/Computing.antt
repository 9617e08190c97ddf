-- The definitions of this crate and those below, as one name for the `unfolding` line of a computed example.
use Rattle.std.specs.Prelude.{ℕ}
use Rattle.assertion.specs.Computing.{assertion_computes}
use Rattle.quote.specs.Quote.{doubled, quoted, quoted_into, quoted_report}
use Rattle.quote.specs.Reading.{opening_at}

unfoldable pub quote_computes : ℕ
unfolding assertion_computes doubled quoted quoted_into quoted_report opening_at
quote_computes = 0
