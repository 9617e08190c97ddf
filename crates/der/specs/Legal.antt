-- Legal contents by kind (Stored value), with those of document 02.
use Rattle.std.specs.Prelude.{ℕ, Bool, true, List, eqb}
use Rattle.octets.specs.Pick.{pick}
use Rattle.der.specs.Kind.{boolean, integer, enumerated, null, object_identifier, octet_string, bit_string, named_bit_string, rdn_sequence, rdn}
use Rattle.der.specs.Contents.{legal_boolean, legal_integer, legal_null, legal_oid, legal_bits, legal_named_bits, legal_text}
use Rattle.der.specs.Names.{legal_rdn_sequence, legal_rdn}

-- of a kind whose rows have neither members nor an element
unfoldable pub legal : ℕ → List ℕ → Bool
legal k c =
    pick (eqb k boolean) (legal_boolean c)
    (pick (eqb k integer) (legal_integer c)
    (pick (eqb k enumerated) (legal_integer c)
    (pick (eqb k null) (legal_null c)
    (pick (eqb k object_identifier) (legal_oid c)
    (pick (eqb k octet_string) true
    (pick (eqb k bit_string) (legal_bits c)
    (pick (eqb k named_bit_string) (legal_named_bits c)
    (pick (eqb k rdn_sequence) (legal_rdn_sequence c)
    (pick (eqb k rdn) (legal_rdn c)
    (legal_text k c))))))))))
