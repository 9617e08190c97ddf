-- The definitions of this crate, as one name for the `unfolding` line of a computed example.
use Rattle.std.specs.Prelude.{ℕ}
use Rattle.octets.specs.Pick.{all}
use Rattle.octets.specs.Octets.{base_from, same, every, larger, below, paired}
use Rattle.octets.specs.Inner.Answers.{highest_from}
use Rattle.octets.specs.Text.{is_digit, is_lower, is_upper, is_letter, is_alnum, is_hex, hex_value, may_follow, name_from, is_name, lower, starts, lead, skip}
use Rattle.octets.specs.Text.{decimal_from, is_number, trimmed, pieces}
use Rattle.octets.specs.Utf8.{after_first, after, utf8_from, utf8}
use Rattle.octets.specs.Quoted.{closing, closing_at, undoubled, characters, unquoted}

unfoldable pub octets_compute : ℕ
unfolding all base_from same every larger highest_from below paired
    is_digit is_lower is_upper is_letter is_alnum is_hex hex_value may_follow name_from is_name lower starts lead skip decimal_from is_number trimmed pieces
    after_first after utf8_from utf8 closing closing_at undoubled characters unquoted
octets_compute = 0
