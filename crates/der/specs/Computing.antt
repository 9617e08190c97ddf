-- The definitions of this crate and those below, as one name for the `unfolding` line of a computed example.
use Rattle.std.specs.Prelude.{ℕ}
use Rattle.octets.specs.Computing.{octets_compute}
use Rattle.der.specs.Kind.{is_string, is_constructed}
use Rattle.der.specs.Tag.{class, constructed, number, tag_of, universal_text, universal, own_octet, implicit_octet, wrapper_octet}
use Rattle.der.specs.Header.{long_length, length_at, header_at, inside_at}
use Rattle.der.specs.Contents.{legal_boolean, shortest, legal_integer, legal_null, subs_from, subidentifiers, legal_oid, legal_bits, legal_named_bits}
use Rattle.der.specs.Contents.{is_sign, is_mark, is_printable, legal_printable, legal_ia5, legal_text}
use Rattle.der.specs.Names.{elements_from, legal_string, legal_pair, every_element, in_order, legal_rdn, legal_rdn_sequence, pair_of, rdn_of, name_of}
use Rattle.der.specs.Legal.{legal}
use Rattle.der.specs.Time.{is_leap, has_thirty, days_in, real_date, real_time, fraction_digits, fraction_formed, tail_formed, real_moment, legal_time}
use Rattle.der.specs.Time.{scaled, billionths, time_of, same_time, earlier}
use Rattle.der.specs.Meaning.{same_whole, less_whole, integer_of, boolean_of, arcs_of, octet_bits, all_bits, bits_of}
use Rattle.der.specs.Dotted.{every_number, dotted_arcs, is_dotted}
use Rattle.der.specs.Order.{not_above}

unfoldable pub der_computes : ℕ
unfolding octets_compute is_string is_constructed class constructed number tag_of universal_text universal own_octet implicit_octet wrapper_octet
    long_length length_at header_at inside_at
    legal_boolean shortest legal_integer legal_null subs_from subidentifiers legal_oid legal_bits legal_named_bits
    is_sign is_mark is_printable legal_printable legal_ia5 legal_text legal
    elements_from legal_string legal_pair every_element in_order legal_rdn legal_rdn_sequence pair_of rdn_of name_of
    is_leap has_thirty days_in real_date real_time fraction_digits fraction_formed tail_formed real_moment legal_time scaled billionths time_of same_time earlier
    same_whole less_whole integer_of boolean_of arcs_of octet_bits all_bits bits_of every_number dotted_arcs is_dotted not_above
der_computes = 0
