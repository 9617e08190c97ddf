-- The kinds of rows, by document 01's numbers (Type table) and document 02's.
use Rattle.std.specs.Prelude.{ℕ, Bool, eqb}
use Rattle.octets.specs.Pick.{either}
use Rattle.octets.specs.Text.{within}

abbrev pub boolean : ℕ
boolean = 1

abbrev pub integer : ℕ
integer = 2

abbrev pub enumerated : ℕ
enumerated = 3

abbrev pub null : ℕ
null = 4

abbrev pub object_identifier : ℕ
object_identifier = 5

abbrev pub octet_string : ℕ
octet_string = 6

abbrev pub bit_string : ℕ
bit_string = 7

abbrev pub utf8_string : ℕ
utf8_string = 8

abbrev pub printable_string : ℕ
printable_string = 9

abbrev pub ia5_string : ℕ
ia5_string = 10

abbrev pub generalized_time : ℕ
generalized_time = 11

abbrev pub sequence : ℕ
sequence = 12

abbrev pub choice : ℕ
choice = 13

abbrev pub sequence_of : ℕ
sequence_of = 14

abbrev pub set_of : ℕ
set_of = 15

abbrev pub member : ℕ
member = 16

-- document 02, Q-2: a BIT STRING with names, and a named bit
abbrev pub named_bit_string : ℕ
named_bit_string = 17

abbrev pub named_bit : ℕ
named_bit = 18

-- document 02, Q-3: an RDNSequence, and a RelativeDistinguishedName (RDN)
abbrev pub rdn_sequence : ℕ
rdn_sequence = 19

abbrev pub rdn : ℕ
rdn = 20

-- document 02, Q-4: "a member whose name field is 48 bytes"
abbrev pub long_member : ℕ
long_member = 21

-- the string kinds
unfoldable pub is_string : ℕ → Bool
is_string k = within utf8_string ia5_string k

-- kinds whose tag octet has the constructed bit
unfoldable pub is_constructed : ℕ → Bool
is_constructed k = either (eqb k sequence) (either (eqb k sequence_of) (either (eqb k set_of) (either (eqb k rdn_sequence) (eqb k rdn))))
