-- What the code's rules and answers say.
use Rattle.std.specs.Prelude.{ℕ, ◌+◌, Bool, true, false, List, eqb}
use Rattle.std.specs.Prelude.{Option, None, Some}
use Rattle.octets.specs.Pick.{both, either, bind, is_some}
use Rattle.octets.specs.Octets.{same, bytes}
use Rattle.octets.specs.Quoted.{unquoted}
use Rattle.der.specs.Kind.{is_string}
use Rattle.der.specs.Dotted.{is_dotted, dotted_arcs}
use Rattle.der.specs.declared.Time.{Time}
use Rattle.integers.specs.Asserted.{is_integer, asserted_integer}
use Rattle.digits.specs.Asserted.{is_octets, asserted_octets, is_bits, asserted_bits}
use Rattle.strings.specs.Asserted.{is_text, asserted_text}
use Rattle.times.specs.Asserted.{asserted_time}
use Rattle.names.specs.Compared.{Compared, asserted_name, asserted_rdn}
use Rattle.rows.specs.Row.{mode_at}
use Rattle.table.specs.Inner.Rows.{place_at, member_kind_at}
use Rattle.rules.specs.Rule.{Syntax, booleans, integers, object_identifiers, octet_strings, bit_strings, strings, times, names, rdns}
use Rattle.rules.specs.Rule.{Rule, present, equal, less}
use Rattle.rules.specs.Rule.{same_name}
use Rattle.rules.specs.Asserted.{Asserted, any_value, truth, integer, arcs, octets, bits, text, time, name, rdn, is_truth}
use Rattle.rules.specs.declared.Syntax as syntax
use Rattle.rules.specs.declared.Rule as rule

-- ---- the code's rules
abbrev pub syntax_of : syntax.Syntax → Syntax
syntax_of syntax.Syntax.Booleans = booleans
syntax_of syntax.Syntax.Integers = integers
syntax_of syntax.Syntax.ObjectIdentifiers = object_identifiers
syntax_of syntax.Syntax.OctetStrings = octet_strings
syntax_of syntax.Syntax.BitStrings = bit_strings
syntax_of (syntax.Syntax.Strings fold) = strings fold
syntax_of syntax.Syntax.Times = times
syntax_of syntax.Syntax.Names = names
syntax_of syntax.Syntax.Rdns = rdns

abbrev pub meant : rule.Rule → Rule
meant rule.Rule.Present = present
meant (rule.Rule.Equal s) = equal (syntax_of s)
meant (rule.Rule.Less s) = less (syntax_of s)

abbrev pub report_rule : Option rule.Rule → Option Rule
report_rule None = None
report_rule (Some r) = Some (meant r)

-- a text is a rule's name or OID
unfoldable pub called : List ℕ → List ℕ → List ℕ → Bool
called t word oid = either (same_name t word) (same t oid)

-- ---- value texts
-- those of a rule of bits are read by what the reference leads to
abbrev pub of_bits : Syntax → Bool
of_bits booleans = false
of_bits integers = false
of_bits object_identifiers = false
of_bits octet_strings = false
of_bits bit_strings = true
of_bits (strings fold) = false
of_bits times = false
of_bits names = false
of_bits rdns = false

unfoldable pub read_by_target : Rule → Bool
read_by_target present = false
read_by_target (equal s) = of_bits s
read_by_target (less s) = of_bits s

-- those of the other rules, whatever it leads to: whether one conforms, and what it asserts where it does; bits as without names
unfoldable pub conforms_to : Syntax → List ℕ → Bool
conforms_to booleans t = is_truth t
conforms_to integers t = is_integer t
conforms_to object_identifiers t = is_dotted t
conforms_to octet_strings t = is_octets t
conforms_to bit_strings t = is_bits t
conforms_to (strings fold) t = is_text t
conforms_to times t = is_some (asserted_time t)
conforms_to names t = is_some (bind (unquoted t) asserted_name)
conforms_to rdns t = is_some (bind (unquoted t) asserted_rdn)

unfoldable pub conforms : Rule → List ℕ → Bool
conforms present t = same t (bytes "NULL")
conforms (equal s) t = conforms_to s t
conforms (less s) t = conforms_to s t

abbrev pub time_or : Option Time → Asserted
time_or None = any_value
time_or (Some u) = time u

abbrev pub name_or : Option (List (List Compared)) → Asserted
name_or None = any_value
name_or (Some n) = name n

abbrev pub rdn_or : Option (List Compared) → Asserted
rdn_or None = any_value
rdn_or (Some l) = rdn l

unfoldable pub said_in : Syntax → List ℕ → Asserted
said_in booleans t = truth (same t (bytes "TRUE"))
said_in integers t = integer (asserted_integer t)
said_in object_identifiers t = arcs (dotted_arcs t)
said_in octet_strings t = octets (asserted_octets t)
said_in bit_strings t = bits (asserted_bits t)
said_in (strings fold) t = text fold (asserted_text t)
said_in times t = time_or (asserted_time t)
said_in names t = name_or (bind (unquoted t) asserted_name)
said_in rdns t = rdn_or (bind (unquoted t) asserted_rdn)

unfoldable pub said : Rule → List ℕ → Asserted
said present t = any_value
said (equal s) t = said_in s t
said (less s) t = said_in s t

-- ---- the target as row i of a table t
-- alternative j of row i has no tag and is a string
unfoldable pub string_row : List ℕ → ℕ → ℕ → Bool
string_row t i j = both (eqb (mode_at t (place_at t (i + 1 + j))) 0) (is_string (member_kind_at t (i + 1 + j)))
