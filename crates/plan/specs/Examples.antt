-- Computed examples: operands, and the tests of rules with them.
use Rattle.std.specs.Prelude.{◌≡◌, refl, true, false, [], ◌∷◌}
use Rattle.octets.specs.Octets.{bytes}
use Rattle.dotted.specs.Inner.Stored.{fitting}
use Rattle.integers.specs.Inner.Bounds.{bound_of}
use Rattle.integers.specs.declared.Bound.{Bound}
use Rattle.strings.specs.Inner.Comparing.{is_plain}
use Rattle.rules.specs.Rule.{booleans, integers, object_identifiers, bit_strings, strings, times, equal, less}
use Rattle.rules.specs.Computing.{rules_compute}
use Rattle.plan.specs.Inner.Test.{no_value, truth, same_integer, less_integer, arcs, bits, string, earlier_time, equal_test, less_test, test_for}
use Rattle.plan.specs.Inner.Operand.{prepared_operand, operand_of}

operands : operand_of (equal integers) (bytes "-3") ∷ operand_of (equal (strings true)) (bytes "\"A b\"")
    ∷ operand_of (equal (strings true)) (bytes "\"  A \"\" b \"") ∷ operand_of (equal (strings false)) (bytes "\"  A \"\" b \"")
    ∷ operand_of (less times) (bytes "\"20240229120000Z\"") ∷ []
    ≡ bytes "-3" ∷ bytes "A b" ∷ bytes "a \" b" ∷ bytes "A \" b" ∷ bytes "20240229120000Z" ∷ []
unfolding rules_compute is_plain prepared_operand operand_of
operands = refl

-- an integer or OID that no stored one can equal is known before the walk
tests : test_for (equal booleans) (bytes "FALSE") ∷ test_for (equal integers) (bytes "1") ∷ test_for (equal integers) (bytes "9223372036854775808")
    ∷ test_for (less integers) (bytes "-9223372036854775809") ∷ test_for (equal object_identifiers) (bytes "2.5.4.3") ∷ test_for (equal object_identifiers) (bytes "1.2.4294967296")
    ∷ test_for (equal bit_strings) (bytes "'01'B") ∷ test_for (equal bit_strings) (bytes "'01'H") ∷ test_for (equal (strings true)) (bytes "a") ∷ test_for (less times) [] ∷ []
    ≡ truth false ∷ same_integer (Bound.At 9223372036854775809) ∷ same_integer Bound.Over ∷ less_integer Bound.Under ∷ arcs ∷ no_value ∷ bits false ∷ bits true ∷ string true ∷ earlier_time ∷ []
unfolding rules_compute fitting bound_of equal_test less_test test_for
tests = refl
