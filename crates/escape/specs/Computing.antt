-- The definitions of this crate and those below, as one name for the `unfolding` line of a computed example.
use Rattle.std.specs.Prelude.{ℕ}
use Rattle.names.specs.Computing.{names_compute}
use Rattle.escape.specs.Escape.{always_escaped, edge_escaped, escaped_octet, escaped_from, escaped_into, escaped_report}
use Rattle.escape.specs.Building.{rdn_text, name_text, every_pair, every_rdn}

unfoldable pub escape_computes : ℕ
unfolding names_compute always_escaped edge_escaped escaped_octet escaped_from escaped_into escaped_report rdn_text name_text every_pair every_rdn
escape_computes = 0
