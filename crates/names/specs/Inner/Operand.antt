-- An asserted name as the operand of a test: octets that are written once, in the order of the text, and read from their end, so that the first RDN comes
-- first. An attribute is its dotted type, its value as prepared, and the lengths of both in two octets each; an RDN its attributes and their number in one octet.
use Rattle.std.specs.Prelude.{ℕ, zero, suc, ◌-◌, ◌/◌, ◌%◌, true, List, [], ◌∷◌, ◌++◌, eqb, length}
use Rattle.std.specs.Prelude.{Option, None, Some}
use Rattle.octets.specs.Pick.{pick}
use Rattle.octets.specs.Octets.{octet, two, part}
use Rattle.der.specs.Dotted.{dotted_arcs}
use Rattle.der.specs.Names.{most_rdns}
use Rattle.strings.specs.Prepared.{prepared}
use Rattle.strings.specs.Inner.Comparing.{folded}
use Rattle.names.specs.Rfc4514.{Attribute}
use Rattle.names.specs.Compared.{Compared}

-- ---- written
abbrev pub two_octets : ℕ → List ℕ
two_octets n = (n / 256) ∷ (n % 256) ∷ []

abbrev pub attribute_octets : Attribute → List ℕ
attribute_octets a =
    a.type ++ (prepared true a.value ++ (two_octets (length a.type) ++ two_octets (length (prepared true a.value))))

unfoldable pub attributes_octets : List Attribute → List ℕ
attributes_octets [] = []
attributes_octets (a ∷ l) = attribute_octets a ++ attributes_octets l

abbrev pub rdn_octets : List Attribute → List ℕ
rdn_octets l = attributes_octets l ++ (length l ∷ [])

unfoldable pub name_octets : List (List Attribute) → List ℕ
name_octets [] = []
name_octets (r ∷ rs) = rdn_octets r ++ name_octets rs

-- what was read of a text, nothing where it doesn't conform
abbrev pub or_none : {A : Type 0} → Option (List A) → List A
or_none None = []
or_none (Some l) = l

-- ---- read from an end on backwards
-- the attribute that ends there: where its value and its type start
abbrev pub text_start : List ℕ → ℕ → ℕ
text_start x end = end - 4 - two x (end - 2)

abbrev pub type_start : List ℕ → ℕ → ℕ
type_start x end = text_start x end - two x (end - 4)

abbrev pub attribute_back : List ℕ → ℕ → Compared
attribute_back x end = record {
  arcs = dotted_arcs (part x (type_start x end) (text_start x end - type_start x end));
  text = folded true (part x (text_start x end) (end - 4 - text_start x end));
}

unfoldable pub attributes_back : ℕ → List ℕ → ℕ → List Compared
attributes_back zero x end = []
attributes_back (suc n) x end = attribute_back x end ∷ attributes_back n x (type_start x end)

-- where n attributes that end there start
unfoldable pub start_back : ℕ → List ℕ → ℕ → ℕ
start_back zero x end = end
start_back (suc n) x end = start_back n x (type_start x end)

-- the RDN that ends there, and where it starts
abbrev pub rdn_back : List ℕ → ℕ → List Compared
rdn_back x end = attributes_back (octet x (end - 1)) x (end - 1)

abbrev pub rdn_start : List ℕ → ℕ → ℕ
rdn_start x end = start_back (octet x (end - 1)) x (end - 1)

-- RDNs, at most so many
unfoldable pub rdns_back : ℕ → List ℕ → ℕ → List (List Compared)
rdns_back zero x end = []
rdns_back (suc most) x end = let r = rdns_back most x (rdn_start x end) in pick (eqb end 0) [] (rdn_back x end ∷ r)

abbrev pub operand_rdn : List ℕ → List Compared
operand_rdn x = rdn_back x (length x)

-- one more than a name may have, so that none is left out
abbrev pub operand_name : List ℕ → List (List Compared)
operand_name x = rdns_back (suc most_rdns) x (length x)
