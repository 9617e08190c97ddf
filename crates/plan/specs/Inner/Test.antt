-- A test: a comparison of contents c with the operand x, which is made once from the value text, or with a number that is in the plan. The number of an
-- integer is the integer plus 2^63; an asserted integer that can't be stored is a bound below or above all.
use Rattle.std.specs.Prelude.{ℕ, ◌-◌, Bool, true, false, List, length, ltb, leb, eqb}
use Rattle.std.specs.Prelude.{Option, None, Some}
use Rattle.octets.specs.Pick.{pick, both, no, bind}
use Rattle.octets.specs.Octets.{part, same, below, bytes, paired}
use Rattle.der.specs.Time as times
use Rattle.der.specs.Meaning.{plus, same_whole, less_whole, integer_of, boolean_of, arcs_of, bits_of}
use Rattle.der.specs.Dotted.{dotted_arcs}
use Rattle.dotted.specs.Inner.Stored.{fitting}
use Rattle.integers.specs.Asserted.{asserted_integer}
use Rattle.integers.specs.Inner.Bounds.{fits, lifted, bound_of, same_bound, less_bound, is_short}
use Rattle.integers.specs.declared.Bound.{Bound}
use Rattle.digits.specs.Asserted.{digits, is_bit_text, is_bits}
use Rattle.digits.specs.Named.{trimmed}
use Rattle.digits.specs.Inner.Answers.{bits_in}
use Rattle.digits.specs.Inner.Masks.{mask_bits}
use Rattle.digits.specs.Inner.Significant.{significant}
use Rattle.strings.specs.Prepared.{prepared}
use Rattle.strings.specs.Inner.Comparing.{folded}
use Rattle.names.specs.Compared.{same_rdn, same_name, stored_rdn, stored_name}
use Rattle.names.specs.Inner.Operand.{operand_rdn, operand_name}
use Rattle.types.specs.Types.{NamedBit}
use Rattle.reference.specs.Allowed.{Target}
use Rattle.bitnames.specs.Names as names
use Rattle.rules.specs.Rule as rule
use Rattle.rules.specs.Rule.{Syntax, Rule}
use Rattle.rules.specs.Suits.{suits}
use Rattle.rules.specs.Asserted.{names_at}
use Rattle.plan.specs.declared.TestNumbers.{TestNumbers}

-- any value, none; a truth; an integer equal to a bound, or less; arcs; octets equal, or less; bits of hexadecimal digits (true) or binary ones; a string,
-- folded (true) or exact; a time equal, or earlier; bits with names, of so many digits, which are as above, or listed; a distinguished name; an RDN
pub data Test : Type 0 where
  any_value : Test
  no_value : Test
  truth : Bool → Test
  same_integer : Bound → Test
  less_integer : Bound → Test
  arcs : Test
  octets : Test
  less_octets : Test
  bits : Bool → Test
  string : Bool → Test
  time : Test
  earlier_time : Test
  named_bits : Bool → ℕ → Test
  listed : List ℕ → Test
  name : Test
  rdn : Test

-- ---- what a test says of contents
-- of an INTEGER of one to eight octets, which is within the bounds; of numbers that are no octets the operand decides
unfoldable pub integer_is : Bool → Bool → List ℕ → Bool
integer_is told otherwise c = both (is_short c) (pick (fits (integer_of c)) told otherwise)

unfoldable pub accepted : Test → List ℕ → List ℕ → Bool
accepted any_value x c = true
accepted no_value x c = false
accepted (truth b) x c = pick b (boolean_of c) (no (boolean_of c))
accepted (same_integer b) x c = integer_is (same_bound (lifted (integer_of c)) b) (same_whole (integer_of c) (asserted_integer x)) c
accepted (less_integer b) x c = integer_is (less_bound (lifted (integer_of c)) b) (less_whole (integer_of c) (asserted_integer x)) c
accepted arcs x c = same (arcs_of c) (dotted_arcs x)
accepted octets x c = same c (paired (digits x))
accepted less_octets x c = below c (paired (digits x))
accepted (bits hexed) x c = both (leb (length c) 65536) (same (bits_of c) (bits_in hexed (digits x)))
accepted (string fold) x c = same (prepared fold c) (folded fold x)
accepted time x c = times.same_time (times.time_of c) (times.time_of x)
accepted earlier_time x c = times.earlier (times.time_of c) (times.time_of x)
accepted (named_bits hexed n) x c = both (leb (length c) 65536) (same (trimmed (bits_of c)) (trimmed (bits_in hexed (part (digits x) 0 n))))
accepted (listed l) x c = both (leb (length c) 65536) (same (trimmed (bits_of c)) (trimmed l))
accepted name x c = same_name (stored_name c) (operand_name x)
accepted rdn x c = same_rdn (stored_rdn c) (operand_rdn x)

-- of a count, below 2^63
unfoldable pub accepted_count : Test → ℕ → Bool
accepted_count any_value n = true
accepted_count no_value n = false
accepted_count (truth b) n = false
accepted_count (same_integer b) n = both (ltb n 9223372036854775808) (same_bound (lifted (plus n)) b)
accepted_count (less_integer b) n = both (ltb n 9223372036854775808) (less_bound (lifted (plus n)) b)
accepted_count arcs n = false
accepted_count octets n = false
accepted_count less_octets n = false
accepted_count (bits hexed) n = false
accepted_count (string fold) n = false
accepted_count time n = false
accepted_count earlier_time n = false
accepted_count (named_bits hexed m) n = false
accepted_count (listed l) n = false
accepted_count name n = false
accepted_count rdn n = false

-- ---- the test of a rule with an operand
unfoldable pub equal_test : Syntax → List ℕ → Test
equal_test rule.booleans x = truth (same x (bytes "TRUE"))
equal_test rule.integers x = same_integer (bound_of (asserted_integer x))
equal_test rule.object_identifiers x = pick (fitting 33 (dotted_arcs x)) arcs no_value
equal_test rule.octet_strings x = octets
equal_test rule.bit_strings x = bits (no (is_bit_text x))
equal_test (rule.strings fold) x = string fold
equal_test rule.times x = time
equal_test rule.names x = name
equal_test rule.rdns x = rdn

unfoldable pub less_test : Syntax → List ℕ → Test
less_test rule.booleans x = no_value
less_test rule.integers x = less_integer (bound_of (asserted_integer x))
less_test rule.object_identifiers x = no_value
less_test rule.octet_strings x = less_octets
less_test rule.bit_strings x = no_value
less_test (rule.strings fold) x = no_value
less_test rule.times x = earlier_time
less_test rule.names x = no_value
less_test rule.rdns x = no_value

unfoldable pub test_for : Rule → List ℕ → Test
test_for rule.present x = any_value
test_for (rule.equal s) x = equal_test s x
test_for (rule.less s) x = less_test s x

-- ---- the test of a rule of bits with a value text, by the names of bits there; none where the text doesn't conform
-- with names: of a text that is no list by its digits up to the last that isn't 0; an ordering rule accepts no bits
abbrev pub of_rule : Rule → Test → Test
of_rule rule.present u = any_value
of_rule (rule.equal s) u = u
of_rule (rule.less s) u = no_value

unfoldable pub bits_test_by : Rule → Option (List NamedBit) → List ℕ → Option Test
bits_test_by r None x = pick (is_bits x) (Some (test_for r x)) None
bits_test_by r (Some ns) x =
    pick (is_bits x) (Some (of_rule r (named_bits (no (is_bit_text x)) (significant (length (digits x)) (digits x)))))
    (bind (names.listed_bits ns x) (λ l. Some (of_rule r (listed l))))

-- none where the rule isn't for what the reference leads to, too
unfoldable pub bits_test : Rule → Target → List ℕ → Option Test
bits_test r g x = pick (suits r g) (bits_test_by r (names_at g) x) None

-- ---- a test as two numbers: the comparison, and the number that it is with
abbrev pub bound_numbered : ℕ → ℕ → Bound
bound_numbered k n = pick (eqb k 0) (Bound.At n) (pick (eqb k 1) Bound.Under Bound.Over)

abbrev pub plain_test : ℕ → Test
plain_test a = pick (eqb a 0) any_value (pick (eqb a 1) no_value (truth (eqb a 2)))

abbrev pub digit_test : ℕ → Test
digit_test a = pick (eqb a 10) arcs (pick (eqb a 11) octets (pick (eqb a 12) less_octets (bits (eqb a 13))))

abbrev pub text_test : ℕ → Test
text_test a = pick (eqb a 17) time (pick (eqb a 18) earlier_time (string (eqb a 15)))

abbrev pub named_test : ℕ → ℕ → Test
named_test a n = pick (eqb a 21) (listed (mask_bits n)) (named_bits (eqb a 19) n)

abbrev pub name_test : ℕ → Test
name_test a = pick (eqb a 22) name rdn

unfoldable pub test_of : ℕ → ℕ → Test
test_of a n =
    pick (ltb a 4) (plain_test a)
    (pick (ltb a 7) (same_integer (bound_numbered (a - 4) n))
    (pick (ltb a 10) (less_integer (bound_numbered (a - 7) n))
    (pick (ltb a 15) (digit_test a)
    (pick (ltb a 19) (text_test a)
    (pick (ltb a 22) (named_test a n)
    (name_test a))))))

abbrev pub report_test : TestNumbers → Test
report_test r = test_of r.comparison r.number

abbrev pub report_bits : Option TestNumbers → Option Test
report_bits None = None
report_bits (Some r) = Some (report_test r)
