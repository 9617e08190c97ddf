-- Rules: what a value text asserts, by its rule and what its reference leads to; nothing where it doesn't conform. The syntaxes of integers, octets and
-- bits, strings and times are in the crates integers, digits, strings and times, lists of names of bits in bitnames, distinguished names in names; dotted OIDs
-- in der/specs/Dotted.
use Rattle.std.specs.Prelude.{ℕ, Bool, List, eqb}
use Rattle.std.specs.Prelude.{Option, None, Some}
use Rattle.octets.specs.Pick.{pick, either, bind}
use Rattle.octets.specs.Octets.{same, bytes}
use Rattle.octets.specs.Quoted.{unquoted}
use Rattle.der.specs.Kind as kind
use Rattle.der.specs.Meaning.{Whole}
use Rattle.der.specs.Dotted.{is_dotted, dotted_arcs}
use Rattle.der.specs.declared.Time.{Time}
use Rattle.integers.specs.Asserted.{is_integer, asserted_integer}
use Rattle.digits.specs.Asserted.{is_octets, asserted_octets, is_bits, asserted_bits}
use Rattle.strings.specs.Asserted.{is_text, asserted_text}
use Rattle.times.specs.Asserted.{asserted_time}
use Rattle.names.specs.Compared.{Compared, asserted_name, asserted_rdn}
use Rattle.types.specs.Types.{NamedBit, basic, sequence, choice, list_of}
use Rattle.reference.specs.Allowed.{Target, of_type, of_count}
use Rattle.bitnames.specs.Names.{listed_bits}
use Rattle.rules.specs.Rule.{Syntax, booleans, integers, object_identifiers, octet_strings, bit_strings, strings, times, names, rdns}
use Rattle.rules.specs.Rule.{Rule, present, equal, less}

-- any value; a truth; an integer; the arcs of an OID; octets; bits; bits whose trailing zeros don't count; the characters of a string, to be compared with
-- letters folded (true) or as they are; a time; the RDNs of a name, and the pairs of an RDN, as they are compared
pub data Asserted : Type 0 where
  any_value : Asserted
  truth : Bool → Asserted
  integer : Whole → Asserted
  arcs : List ℕ → Asserted
  octets : List ℕ → Asserted
  bits : List ℕ → Asserted
  named_bits : List ℕ → Asserted
  text : Bool → List ℕ → Asserted
  time : Time → Asserted
  name : List (List Compared) → Asserted
  rdn : List Compared → Asserted

-- "Booleans: `TRUE` or `FALSE`"
unfoldable pub is_truth : List ℕ → Bool
is_truth t = either (same t (bytes "TRUE")) (same t (bytes "FALSE"))

-- a text asserts this, if it conforms
abbrev pub asserts : Bool → Asserted → Option Asserted
asserts conforms a = pick conforms (Some a) None

-- the names of bits, where the reference leads to a BIT STRING with names
abbrev pub names_at : Target → Option (List NamedBit)
names_at (of_type (basic k ns)) = pick (eqb k kind.named_bit_string) (Some ns) None
names_at (of_type (sequence ms)) = None
names_at (of_type (choice ms)) = None
names_at (of_type (list_of k ty)) = None
names_at of_count = None

-- bits; with names trailing zeros don't count, and "the assertion may also be a GSER list of the names in braces" (document 02, Q-2)
unfoldable pub asserted_bits_by : Option (List NamedBit) → List ℕ → Option Asserted
asserted_bits_by None t = asserts (is_bits t) (bits (asserted_bits t))
asserted_bits_by (Some ns) t = pick (is_bits t) (Some (named_bits (asserted_bits t))) (bind (listed_bits ns t) (λ l. Some (named_bits l)))

-- OIDs: "a name there doesn't conform"; "asserted names are quoted RFC 4514 strings" (document 02, Q-3)
unfoldable pub asserted_in : Syntax → Target → List ℕ → Option Asserted
asserted_in booleans g t = asserts (is_truth t) (truth (same t (bytes "TRUE")))
asserted_in integers g t = asserts (is_integer t) (integer (asserted_integer t))
asserted_in object_identifiers g t = asserts (is_dotted t) (arcs (dotted_arcs t))
asserted_in octet_strings g t = asserts (is_octets t) (octets (asserted_octets t))
asserted_in bit_strings g t = asserted_bits_by (names_at g) t
asserted_in (strings fold) g t = asserts (is_text t) (text fold (asserted_text t))
asserted_in times g t = bind (asserted_time t) (λ u. Some (time u))
asserted_in names g t = bind (bind (unquoted t) asserted_name) (λ n. Some (name n))
asserted_in rdns g t = bind (bind (unquoted t) asserted_rdn) (λ l. Some (rdn l))

-- presentMatch: "value `NULL`"
unfoldable pub asserted_of : Rule → Target → List ℕ → Option Asserted
asserted_of present g t = asserts (same t (bytes "NULL")) any_value
asserted_of (equal s) g t = asserted_in s g t
asserted_of (less s) g t = asserted_in s g t
