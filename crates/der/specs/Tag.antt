-- Tags. "A tag octet has two top bits class, the next constructed, five the tag number."
use Rattle.std.specs.Prelude.{ℕ, ◌+◌, ◌/◌, ◌%◌, eqb}
use Rattle.octets.specs.Pick.{pick}
use Rattle.der.specs.Kind.{boolean, integer, enumerated, null, object_identifier, octet_string, bit_string, named_bit_string, is_constructed}
use Rattle.der.specs.Kind.{utf8_string, printable_string, ia5_string, generalized_time, sequence, sequence_of, set_of, rdn_sequence, rdn}
use Rattle.der.specs.declared.Tag.{Tag}

-- 0 universal, 1 application, 2 context, 3 private
unfoldable pub class : ℕ → ℕ
class o = o / 64

unfoldable pub constructed : ℕ → ℕ
constructed o = o / 32 % 2

unfoldable pub number : ℕ → ℕ
number o = o % 32

-- the three parts
abbrev pub split : ℕ → Tag
split o = record { class = class o; constructed = constructed o; number = number o }

-- A tag by class and number, as types are told apart: n for universal n, 32 + n for context n, and for any other 31, which is not used
abbrev pub context : ℕ → ℕ
context n = 32 + n

unfoldable pub tag_of : ℕ → ℕ
tag_of o =
    pick (eqb (class o) 0) (number o)
    (pick (eqb (class o) 2) (context (number o)) 31)

-- the universal tag of a kind (X.680); 16 for SEQUENCE, SEQUENCE OF and RDNSequence, 17 for SET OF and RDN. A CHOICE has none of its own, and a number that
-- is no type's kind has none: 0, which X.690 keeps for no type
unfoldable pub universal_text : ℕ → ℕ
universal_text k =
    pick (eqb k utf8_string) 12
    (pick (eqb k printable_string) 19
    (pick (eqb k ia5_string) 22
    (pick (eqb k generalized_time) 24
    (pick (eqb k sequence) 16
    (pick (eqb k sequence_of) 16
    (pick (eqb k set_of) 17
    (pick (eqb k rdn_sequence) 16
    (pick (eqb k rdn) 17
    0))))))))

unfoldable pub universal : ℕ → ℕ
universal k =
    pick (eqb k boolean) 1
    (pick (eqb k integer) 2
    (pick (eqb k enumerated) 10
    (pick (eqb k null) 5
    (pick (eqb k object_identifier) 6
    (pick (eqb k octet_string) 4
    (pick (eqb k bit_string) 3
    (pick (eqb k named_bit_string) 3
    (universal_text k))))))))

-- the constructed bit of a kind's tag octet
abbrev pub form : ℕ → ℕ
form k = pick (is_constructed k) 32 0

-- the tag octet of a kind's values: its own, or with an implicit context tag; and that of an explicit wrapper
unfoldable pub own_octet : ℕ → ℕ
own_octet k = form k + universal k

unfoldable pub implicit_octet : ℕ → ℕ → ℕ
implicit_octet n k = 128 + form k + n

unfoldable pub wrapper_octet : ℕ → ℕ
wrapper_octet n = 160 + n
