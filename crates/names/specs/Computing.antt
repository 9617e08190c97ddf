-- The definitions of this crate and those below, as one name for the `unfolding` line of a computed example.
use Rattle.std.specs.Prelude.{ℕ}
use Rattle.octets.specs.Computing.{octets_compute}
use Rattle.der.specs.Computing.{der_computes}
use Rattle.strings.specs.Images.{table, image_in, encoded, all_encoded, marks, image}
use Rattle.strings.specs.Prepared.{images, joined, prepared}
use Rattle.names.specs.Rfc4514.{is_reserved, is_special, letters, up_to_end, from_end, is_string_char, every_letter, trails, is_string, type_from}
use Rattle.names.specs.Rfc4514.{attribute_from, rdn_from, rdns_from, relative_distinguished_name}
use Rattle.names.specs.Compared.{without, same_rdn, same_name, turned, asserted_name, asserted_rdn}

unfoldable pub names_compute : ℕ
unfolding octets_compute der_computes table image_in encoded all_encoded marks image images joined prepared
    is_reserved is_special letters up_to_end from_end is_string_char every_letter trails is_string type_from attribute_from rdn_from rdns_from relative_distinguished_name
    without same_rdn same_name turned asserted_name asserted_rdn
names_compute = 0
