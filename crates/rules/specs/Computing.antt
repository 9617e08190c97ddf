-- The definitions of this crate and those below, as one name for the `unfolding` line of a computed example.
use Rattle.std.specs.Prelude.{ℕ}
use Rattle.reference.specs.Computing.{reference_computes}
use Rattle.rules.specs.Rule.{known_rules, same_name, rule_of}
use Rattle.rules.specs.Suits.{all_strings, suits_target, suits}
use Rattle.integers.specs.Asserted.{is_integer, asserted_integer}
use Rattle.digits.specs.Asserted.{in_quotes, is_hex_string, is_bit_text, is_octets, asserted_octets, is_bits, hex_bits, text_bits, asserted_bits}
use Rattle.digits.specs.Named.{trimmed}
use Rattle.gser.specs.Listed.{after_spaces, before_spaces, in_braces, inside, parted, listed}
use Rattle.bitnames.specs.Names.{number_of, numbers_of, is_in, bits_listed, listed_bits}
use Rattle.names.specs.Computing.{names_compute}
use Rattle.strings.specs.Asserted.{is_text, asserted_text}
use Rattle.times.specs.Asserted.{is_time, asserted_time}
use Rattle.rules.specs.Asserted.{is_truth, asserted_bits_by, asserted_in, asserted_of}
use Rattle.rules.specs.RuleFor.{rule_for}
use Rattle.rules.specs.Accepts.{is_equal, is_less, accepts_contents, accepts_count, accepts, accepts_component}

unfoldable pub rules_compute : ℕ
unfolding reference_computes names_compute known_rules same_name rule_of all_strings suits_target suits
    is_truth is_integer asserted_integer in_quotes is_hex_string is_bit_text is_octets asserted_octets
    is_bits hex_bits text_bits asserted_bits is_text asserted_text is_time asserted_time
    trimmed after_spaces before_spaces in_braces inside parted listed number_of numbers_of is_in bits_listed listed_bits asserted_bits_by
    asserted_in asserted_of rule_for is_equal is_less accepts_contents accepts_count accepts accepts_component
rules_compute = 0
