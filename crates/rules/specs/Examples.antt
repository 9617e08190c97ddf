-- Computed examples: each rule TRUE, FALSE and Undefined.
use Rattle.std.specs.Prelude.{◌≡◌, refl, Bool, true, false, List, [], ◌∷◌, ◌++◌, map, ℕ}
use Rattle.std.specs.Prelude.{Option, None, Some}
use Prim.Native.String.{String}
use Rattle.octets.specs.Pick.{bind}
use Rattle.octets.specs.Octets.{bytes, hex}
use Rattle.types.specs.Types.{Tagging, untagged, explicit, mandatory, NamedBit, Ty, basic, sequence, choice, list_of, no_more, more}
use Rattle.value.specs.Value.{leaf, fields, end_fields}
use Rattle.reference.specs.Allowed.{Target, of_type, of_count}
use Rattle.reference.specs.Named.{Held, value, count_value}
use Rattle.rules.specs.Rule.{known_rules}
use Rattle.rules.specs.Rule as rule
use Rattle.rules.specs.Asserted.{Asserted, any_value, truth, integer, arcs, octets, bits, text, time, asserted_of}
use Rattle.rules.specs.RuleFor.{rule_for}
use Rattle.rules.specs.Accepts.{accepts}
use Rattle.rules.specs.Computing.{rules_compute}

-- a rule's answer for one held value of a target and a value text; none where it is Undefined
test_octets : Target → String → Held → List ℕ → Option Bool
test_octets g rule h t = bind (rule_for known_rules g (bytes rule) t) (λ x. Some (accepts x.rule x.asserted h))

test : Target → String → Held → String → Option Bool
test g rule h asserts = test_octets g rule h (bytes asserts)

-- what a value text asserts
says : rule.Rule → String → Option Asserted
says r asserts = asserted_of r of_count (bytes asserts)

asserting : says rule.present "NULL" ∷ says (rule.equal rule.booleans) "FALSE" ∷ says (rule.less rule.integers) "-3" ∷ says (rule.equal rule.object_identifiers) "2.5.13"
    ∷ says (rule.equal rule.octet_strings) "'0AFF'H" ∷ says (rule.equal rule.bit_strings) "'A'H" ∷ says (rule.equal (rule.strings true)) "\"A\"\"b\""
    ∷ says (rule.less rule.times) "\"20240229120000.5Z\"" ∷ says (rule.equal rule.integers) "03" ∷ says (rule.equal rule.times) "\"20230229120000Z\"" ∷ []
    ≡ Some any_value ∷ Some (truth false) ∷ Some (integer (record { minus = true; size = 3 })) ∷ Some (arcs (2 ∷ 5 ∷ 13 ∷ []))
    ∷ Some (octets (hex "0AFF")) ∷ Some (bits (1 ∷ 0 ∷ 1 ∷ 0 ∷ [])) ∷ Some (text true (bytes "A\"b"))
    ∷ Some (time (record { stamp = 20240229120000; fraction = 500000000 })) ∷ None ∷ None ∷ []
unfolding rules_compute says
asserting = refl

abbrev contents : ℕ → List ℕ → Held
contents k c = value (leaf k (record { place = 0; size = 0; contents = c }))

-- a rule put to a basic kind with contents, for each value text
tests : ℕ → String → List ℕ → List String → List (Option Bool)
tests k rule c values = map (test (of_type (basic k [])) rule (contents k c)) values

-- value `NULL` alone
present : tests 4 "presentMatch" [] ("NULL" ∷ "null" ∷ "\"\"" ∷ []) ≡ Some true ∷ None ∷ None ∷ []
unfolding rules_compute test_octets test tests
present = refl

booleans : tests 1 "booleanMatch" (hex "FF") ("TRUE" ∷ "FALSE" ∷ "true" ∷ "1" ∷ []) ≡ Some true ∷ Some false ∷ None ∷ None ∷ []
unfolding rules_compute test_octets test tests
booleans = refl

-- integers of any size, compared exactly; `-0` and leading zeros don't conform
integers : tests 2 "integerMatch" (hex "01") ("1" ∷ "2" ∷ "-1" ∷ "18446744073709551617" ∷ "-0" ∷ "01" ∷ "+1" ∷ "-" ∷ "1 " ∷ [])
    ≡ Some true ∷ Some false ∷ Some false ∷ Some false ∷ None ∷ None ∷ None ∷ None ∷ None ∷ []
unfolding rules_compute test_octets test tests
integers = refl

least : tests 2 "integerMatch" (hex "8000000000000000") ("-9223372036854775808" ∷ "9223372036854775808" ∷ []) ≡ Some true ∷ Some false ∷ []
unfolding rules_compute test_octets test tests
least = refl

integer_order : tests 2 "integerOrderingMatch" (hex "FE") ("-1" ∷ "-2" ∷ "-3" ∷ "0" ∷ "18446744073709551616" ∷ "-18446744073709551616" ∷ "-0" ∷ [])
    ≡ Some true ∷ Some false ∷ Some false ∷ Some true ∷ Some true ∷ Some false ∷ None ∷ []
unfolding rules_compute test_octets test tests
integer_order = refl

-- an arc beyond 64 bits is no smaller one; a name doesn't conform
oids : tests 5 "objectIdentifierMatch" (hex "2A8648") ("1.2.840" ∷ "1.2" ∷ "1.2.840.0" ∷ "1.2.18446744073709552456" ∷ "cn" ∷ "1" ∷ "1.40" ∷ "1.2.0840" ∷ [])
    ≡ Some true ∷ Some false ∷ Some false ∷ Some false ∷ None ∷ None ∷ None ∷ None ∷ []
unfolding rules_compute test_octets test tests
oids = refl

octet-strings : tests 6 "octetStringMatch" (hex "0AFF") ("'0AFF'H" ∷ "'0A'H" ∷ "''H" ∷ "'0aff'H" ∷ "'0AF'H" ∷ "'01'B" ∷ "0AFF" ∷ [])
    ≡ Some true ∷ Some false ∷ Some false ∷ None ∷ None ∷ None ∷ None ∷ []
unfolding rules_compute test_octets test tests
octet-strings = refl

octet_order : tests 6 "octetStringOrderingMatch" (hex "0AFF") ("'0AFF00'H" ∷ "'0AFF'H" ∷ "'0B'H" ∷ "'0A'H" ∷ "'0B'" ∷ [])
    ≡ Some true ∷ Some false ∷ Some true ∷ Some false ∷ None ∷ []
unfolding rules_compute test_octets test tests
octet_order = refl

-- equal in number and bit by bit; hexadecimal digits may be odd in number
bit_strings_lem : tests 7 "bitStringMatch" (hex "04A0") ("'1010'B" ∷ "'A'H" ∷ "'10100000'B" ∷ "'A0'H" ∷ "''B" ∷ "'12'B" ∷ "'a'H" ∷ [])
    ≡ Some true ∷ Some true ∷ Some false ∷ Some false ∷ Some false ∷ None ∷ None ∷ []
unfolding rules_compute test_octets test tests
bit_strings_lem = refl

no_bits : tests 7 "bitStringMatch" (hex "00") ("''B" ∷ "''H" ∷ "'0'B" ∷ []) ≡ Some true ∷ Some true ∷ Some false ∷ []
unfolding rules_compute test_octets test tests
no_bits = refl

-- ---- document 02, Q-2: with the names print (0), perform (1), record (5)
rights : List NamedBit
rights = record { name = bytes "print"; number = 0 } ∷ record { name = bytes "perform"; number = 1 } ∷ record { name = bytes "record"; number = 5 } ∷ []

rights_tests : String → List String → List (Option Bool)
rights_tests c values = map (test (of_type (basic 17 rights)) "bitStringMatch" (contents 17 (hex c))) values

-- '11'B stored: trailing zeros don't count; names in any order, repeated, with spaces; fewer and more bits
named-bits : rights_tests "06C0" ("'11'B" ∷ "'110'B" ∷ "'C00'H" ∷ "{print,perform}" ∷ "{  perform,   print  }" ∷ "{ print, print, perform, print }"
    ∷ "{print}" ∷ "{print,perform,record}" ∷ "'1'B" ∷ "'111'B" ∷ "{}" ∷ [])
    ≡ Some true ∷ Some true ∷ Some true ∷ Some true ∷ Some true ∷ Some true ∷ Some false ∷ Some false ∷ Some false ∷ Some false ∷ Some false ∷ []
unfolding rules_compute test_octets test rights rights_tests
named-bits = refl

-- no bits stored; a bit by its number; bits beyond the names
named_bits-others : rights_tests "00" ("{}" ∷ "{ }" ∷ "''B" ∷ "'000'B" ∷ "{print}" ∷ []) ++ rights_tests "0204" ("{record}" ∷ "'000001'B" ∷ "{perform}" ∷ [])
    ++ rights_tests "00C001" ("'C001'H" ∷ "{print,perform}" ∷ [])
    ≡ Some true ∷ Some true ∷ Some true ∷ Some true ∷ Some false ∷ Some true ∷ Some true ∷ Some false ∷ Some true ∷ Some false ∷ []
unfolding rules_compute test_octets test rights rights_tests
named_bits-others = refl

-- an unknown name, another case, a space before a comma, commas too many, digits that don't conform
named_bits-undefined : rights_tests "06C0" ("{stage}" ∷ "{print,PERFORM}" ∷ "{print ,perform}" ∷ "{print,}" ∷ "{,}" ∷ "print" ∷ "'12'B" ∷ "'c0'H" ∷ [])
    ≡ None ∷ None ∷ None ∷ None ∷ None ∷ None ∷ None ∷ None ∷ []
unfolding rules_compute test_octets test rights rights_tests
named_bits-undefined = refl

-- without names trailing zeros count, and a list doesn't conform; presentMatch; another rule
named_bits_targets : tests 7 "bitStringMatch" (hex "06C0") ("'11'B" ∷ "'110'B" ∷ "{print}" ∷ "{}" ∷ [])
    ++ map (λ r. test (of_type (basic 17 rights)) r (contents 17 (hex "06C0")) "NULL") ("presentMatch" ∷ "octetStringMatch" ∷ [])
    ≡ Some true ∷ Some false ∷ None ∷ None ∷ Some true ∷ None ∷ []
unfolding rules_compute test_octets test tests rights rights_tests
named_bits_targets = refl

strings : tests 8 "caseIgnoreMatch" (bytes " Foo  BAR ") ("\"foo bar\"" ∷ "\"  FOO   bar \"" ∷ "\"foobar\"" ∷ "\"\"" ∷ "foo" ∷ [])
    ≡ Some true ∷ Some true ∷ Some false ∷ None ∷ None ∷ []
unfolding rules_compute test_octets test tests
strings = refl

exact : tests 9 "caseExactMatch" (bytes "Foo") ("\"Foo\"" ∷ "\"foo\"" ∷ "'Foo'" ∷ []) ≡ Some true ∷ Some false ∷ None ∷ []
unfolding rules_compute test_octets test tests
exact = refl

-- `" "` equals a stored empty or all-space string; `""` inside stands for a quote
spaces : tests 10 "caseExactMatch" [] ("\" \"" ∷ "\"\"\"\"" ∷ []) ++ tests 10 "caseExactMatch" (bytes "  ") ("\" \"" ∷ [])
    ++ tests 10 "caseExactMatch" (bytes "a\"b") ("\"a\"\"b\"" ∷ "\"a\"b\"" ∷ [])
    ≡ Some true ∷ Some false ∷ Some true ∷ Some true ∷ None ∷ []
unfolding rules_compute test_octets test tests
spaces = refl

-- Élan stored: élan, Élan, elan; straße stored: STRASSE, straße; U+017F stored: s, S
accented : List ℕ → String → List (List ℕ) → List (Option Bool)
accented c rule ts = map (test_octets (of_type (basic 8 [])) rule (contents 8 c)) ts

accents : accented (hex "C3896C616E") "caseIgnoreMatch" (hex "22C3A96C616E22" ∷ hex "22C3896C616E22" ∷ bytes "\"elan\"" ∷ [])
    ++ accented (hex "C3896C616E") "caseExactMatch" (hex "22C3A96C616E22" ∷ hex "22C3896C616E22" ∷ bytes "\"elan\"" ∷ [])
    ++ accented (hex "73747261C39F65") "caseIgnoreMatch" (bytes "\"STRASSE\"" ∷ hex "2273747261C39F6522" ∷ [])
    ++ accented (hex "73747261C39F65") "caseExactMatch" (bytes "\"strasse\"" ∷ hex "2273747261C39F6522" ∷ [])
    ++ accented (hex "C5BF") "caseIgnoreMatch" (bytes "\"s\"" ∷ bytes "\"S\"" ∷ [])
    ++ accented (hex "C5BF") "caseExactMatch" (bytes "\"s\"" ∷ bytes "\"S\"" ∷ [])
    ≡ Some true ∷ Some true ∷ Some false ∷ Some false ∷ Some true ∷ Some false ∷ Some true ∷ Some true ∷ Some false ∷ Some true
    ∷ Some true ∷ Some true ∷ Some true ∷ Some false ∷ []
unfolding rules_compute test_octets accented
accents = refl

-- a soft hyphen alone conforms, and equals what is prepared to nothing: an empty string, spaces, controls; for both rules
abbrev against_nothing : String → List (Option Bool)
against_nothing rule = map (λ c. test_octets (of_type (basic 8 [])) rule (contents 8 c) (hex "22C2AD22")) ([] ∷ hex "2020" ∷ hex "0009" ∷ bytes "a" ∷ [])

nothing : against_nothing "caseIgnoreMatch" ≡ Some true ∷ Some true ∷ Some true ∷ Some false ∷ []
unfolding rules_compute test_octets
nothing = refl

nothing-exact : against_nothing "caseExactMatch" ≡ Some true ∷ Some true ∷ Some true ∷ Some false ∷ []
unfolding rules_compute test_octets
nothing-exact = refl

times : tests 11 "generalizedTimeMatch" (bytes "20240229120000.5Z") ("\"20240229120000.5Z\"" ∷ "\"20240229120000Z\"" ∷ "\"20240229120000.50Z\""
    ∷ "\"20230229120000Z\"" ∷ "20240229120000.5Z" ∷ "\"202402291200Z\"" ∷ [])
    ≡ Some true ∷ Some false ∷ None ∷ None ∷ None ∷ None ∷ []
unfolding rules_compute test_octets test tests
times = refl

time_order : tests 11 "generalizedTimeOrderingMatch" (bytes "20240229120000.05Z") ("\"20240229120000.5Z\"" ∷ "\"20240229120000Z\"" ∷ "\"20240229120000.05Z\""
    ∷ "\"20240229120001Z\"" ∷ "\"20240230120000Z\"" ∷ [])
    ≡ Some true ∷ Some false ∷ Some false ∷ Some true ∷ None ∷ []
unfolding rules_compute test_octets test tests
time_order = refl

-- ---- which rule is for which target
-- INTEGER rules on a count; not on ENUMERATED; string rules on kinds 8, 9, 10
targets : test of_count "integerMatch" (count_value 6 2) "2" ∷ test of_count "integerOrderingMatch" (count_value 6 2) "3"
    ∷ test of_count "presentMatch" (count_value 6 2) "NULL" ∷ test of_count "booleanMatch" (count_value 6 2) "TRUE"
    ∷ test (of_type (basic 3 [])) "integerMatch" (contents 3 (hex "02")) "2" ∷ test (of_type (basic 6 [])) "caseIgnoreMatch" (contents 6 []) "\"a\""
    ∷ test (of_type (sequence no_more)) "presentMatch" (value (fields (record { place = 0; size = 2; contents = [] }) end_fields)) "NULL" ∷ []
    ≡ Some true ∷ Some true ∷ Some true ∷ None ∷ None ∷ None ∷ Some true ∷ []
unfolding rules_compute test_octets test
targets = refl

abbrev alternatives : Tagging → Ty → Target
alternatives g ty =
    of_type (choice (more (record { row = 1; name = bytes "a"; tagging = untagged; presence = mandatory }) (basic 8 [])
    (more (record { row = 2; name = bytes "b"; tagging = g; presence = mandatory }) ty no_more)))

-- a CHOICE of untagged string rows; with a tagged one; with one that is no string
choices : map (λ g. test g "caseIgnoreMatch" (contents 9 (bytes "A")) "\"a\"") (alternatives untagged (basic 9 []) ∷ alternatives (explicit 0) (basic 9 [])
    ∷ alternatives untagged (basic 2 []) ∷ [])
    ≡ Some true ∷ None ∷ None ∷ []
unfolding rules_compute test_octets test
choices = refl

-- ---- document 02, Q-3: distinguished names
-- c=AU, o=Adacel, cn=Steven Legg stored
holder : List ℕ
holder = hex "310B3009060355040613024155" ++ hex "310F300D060355040A0C0641646163656C" ++ hex "3114301206035504030C0B" ++ bytes "Steven Legg"

-- the last RDN stands first in the text, and values are compared as caseIgnoreMatch; another order, fewer RDNs, none, another value
name_match : tests 19 "distinguishedNameMatch" holder
    ("\"2.5.4.3=Steven Legg,2.5.4.10=Adacel,2.5.4.6=AU\"" ∷ "\"2.5.4.3=\\53TEVEN  legg\\ ,2.5.4.10=adacel,2.5.4.6=au\""
    ∷ "\"2.5.4.6=AU,2.5.4.10=Adacel,2.5.4.3=Steven Legg\"" ∷ "\"2.5.4.10=Adacel,2.5.4.6=AU\"" ∷ "\"\""
    ∷ "\"2.5.4.3=Steven Leg,2.5.4.10=Adacel,2.5.4.6=AU\"" ∷ [])
    ≡ Some true ∷ Some true ∷ Some false ∷ Some false ∷ Some false ∷ Some false ∷ []
unfolding rules_compute test_octets test tests holder
name_match = refl

-- no quotes, a label, a name of a type, a `#` value, a space after a comma
name-undefined : tests 19 "distinguishedNameMatch" holder
    ("2.5.4.3=a" ∷ "rdnSequence:\"2.5.4.3=a\"" ∷ "\"cn=a\"" ∷ "\"2.5.4.3=#0C0161\"" ∷ "\"2.5.4.3=a, 2.5.4.6=AU\"" ∷ [])
    ≡ None ∷ None ∷ None ∷ None ∷ None ∷ []
unfolding rules_compute test_octets test tests holder
name-undefined = refl

-- one pair with the value `x"`: a quote is escaped, and doubled; doubled alone
quote_in_name : tests 20 "rdnMatch" (hex "300906035504030C027822") ("\"2.5.4.3=x\\\"\"\"" ∷ "\"2.5.4.3=x\\22\"" ∷ "\"2.5.4.3=x\"\"\"" ∷ [])
    ≡ Some true ∷ Some true ∷ None ∷ []
unfolding rules_compute test_octets test tests
quote_in_name = refl

-- cn=a twice stored: pairs match one to one; a type above 2^32; several RDNs and none are no RDN
rdn_match : tests 20 "rdnMatch" (hex "300806035504030C0161" ++ hex "300806035504030C0161")
    ("\"2.5.4.3=a+2.5.4.3=A\"" ∷ "\"2.5.4.3=a\"" ∷ "\"2.5.4.3=a+2.5.4.3=b\""
    ∷ "\"2.5.4.4294967299=a+2.5.4.3=a\"" ∷ "\"2.5.4.3=a,2.5.4.3=a\"" ∷ "\"\"" ∷ [])
    ≡ Some true ∷ Some false ∷ Some false ∷ Some false ∷ None ∷ None ∷ []
unfolding rules_compute test_octets test tests
rdn_match = refl

-- no RDNs stored
no-rdns : tests 19 "2.5.13.1" [] ("\"\"" ∷ "\"2.5.4.3=a\"" ∷ []) ≡ Some true ∷ Some false ∷ []
unfolding rules_compute test_octets test tests
no-rdns = refl

-- each rule on its own kind alone, not on a list of RDNs; presentMatch on both; a rule of strings
name_targets : map (λ k. test (of_type (basic k [])) "distinguishedNameMatch" (contents k []) "\"2.5=a\"") (19 ∷ 20 ∷ 8 ∷ [])
    ++ map (λ k. test (of_type (basic k [])) "1.2.36.79672281.1.13.3" (contents k []) "\"2.5=a\"") (19 ∷ 20 ∷ 8 ∷ [])
    ++ map (λ k. test (of_type (basic k [])) "presentMatch" (contents k []) "NULL") (19 ∷ 20 ∷ [])
    ++ test (of_type (list_of 14 (basic 20 []))) "distinguishedNameMatch" (contents 19 []) "\"\""
    ∷ test (of_type (basic 19 [])) "caseIgnoreMatch" (contents 19 []) "\"a\"" ∷ []
    ≡ Some false ∷ None ∷ None ∷ None ∷ Some false ∷ None ∷ Some true ∷ Some true ∷ None ∷ None ∷ []
unfolding rules_compute test_octets test
name_targets = refl

-- names without regard to case, OIDs, unknown ones
names : map (λ r. test (of_type (basic 2 [])) r (contents 2 (hex "01")) "1") ("INTEGERmatch" ∷ "2.5.13.14" ∷ "2.5.13.15" ∷ "integerMatches" ∷ "2.5.13.140"
    ∷ "caseIgnoreMatch" ∷ [])
    ≡ Some true ∷ Some true ∷ Some false ∷ None ∷ None ∷ None ∷ []
unfolding rules_compute test_octets test
names = refl
