-- The examples of RFC 3687, sections 3.1.5 and 7, that document 01's base can express.
use Rattle.std.specs.Prelude.{◌≡◌, refl, true, List, [], ◌∷◌, ◌++◌, map, ℕ}
use Prim.Native.String.{String}
use Rattle.octets.specs.Octets.{bytes, hex}
use Rattle.types.specs.Paper.{member_row}
use Rattle.rules.specs.Rule.{known_rules}
use Rattle.engine.specs.Paper.{limits}
use Rattle.evaluation.specs.Truth.{TRUE, FALSE, UNDEFINED}
use Rattle.engine.specs.Answer.{Report, answers, ask_report}
use Rattle.engine.specs.Computing.{engine_computes}
use Rattle.demands.specs.Shown.{shown_table, shown_value, shown_list}

-- ---- section 3.1.5: ExampleType. The base has no SET: part2 is a SEQUENCE of the same members
abbrev example_type : List ℕ
example_type =
    12 ∷ 4 ∷ member_row "part1" 5 1 0 0 [] ++ member_row "part2" 6 1 1 0 [] ++ member_row "part3" 9 1 2 0 [] ++ member_row "part4" 10 1 3 0 []
    ++ 2 ∷ 12 ∷ 2 ∷ member_row "option" 14 0 0 0 [] ++ member_row "setting" 15 0 0 0 []
    ++ 15 ∷ 0 ∷ 13 ∷ 13 ∷ 2 ∷ member_row "eeny-meeny" 16 0 0 0 [] ++ member_row "miney-mo" 17 0 0 0 []
    ++ 5 ∷ 9 ∷ 1 ∷ 7 ∷ 6 ∷ []

-- { part1 5, part2 { option "on", setting FALSE }, part3 { 1.2.3, 2.5.4 }, part4 miney-mo:'AB'H }
abbrev example : List ℕ
example = hex "3021A003020105A109300713026F6E010100A20A310806022A0306025504A3030401AB"

example-good : shown_table example_type ∷ shown_value example_type example ∷ [] ≡ (0 ∷ 18 ∷ []) ∷ (0 ∷ []) ∷ []
unfolding engine_computes
example-good = refl

unfoldable pub names : String → List ℕ
names s = shown_list example_type example true (bytes s) true 9

pub references : map names ("part1" ∷ "part2" ∷ "part2.option" ∷ "part3" ∷ "part3.2" ∷ "part3.0" ∷ "part3.*" ∷ "part4" ∷ "part4.miney-mo" ∷ "part4.eeny-meeny" ∷ [])
    ≡ (0 ∷ 1 ∷ 0 ∷ 4 ∷ 3 ∷ []) ∷ (0 ∷ 1 ∷ 0 ∷ 9 ∷ 9 ∷ []) ∷ (0 ∷ 1 ∷ 0 ∷ 11 ∷ 4 ∷ []) ∷ (0 ∷ 1 ∷ 0 ∷ 20 ∷ 10 ∷ []) ∷ (0 ∷ 1 ∷ 0 ∷ 26 ∷ 4 ∷ []) ∷ (0 ∷ 1 ∷ 2 ∷ 20 ∷ 2 ∷ [])
    ∷ (0 ∷ 2 ∷ 0 ∷ 22 ∷ 4 ∷ 0 ∷ 26 ∷ 4 ∷ []) ∷ (0 ∷ 1 ∷ 0 ∷ 32 ∷ 3 ∷ []) ∷ (0 ∷ 1 ∷ 0 ∷ 32 ∷ 3 ∷ []) ∷ (0 ∷ 0 ∷ []) ∷ []
unfolding engine_computes names
references = refl

-- ---- section 7: ObjectClassDescription. A DirectoryString is here a CHOICE of PrintableString and UTF8String
abbrev object_class_description : List ℕ
object_class_description =
    12 ∷ 5 ∷ member_row "identifier" 6 0 0 0 [] ++ member_row "name" 7 0 0 1 [] ++ member_row "description" 8 0 0 1 [] ++ member_row "obsolete" 13 0 0 2 (0 ∷ []) ++ member_row "information" 14 1 0 0 []
    ++ 5 ∷ 15 ∷ 0 ∷ 8 ∷ 13 ∷ 2 ∷ member_row "printableString" 11 0 0 0 [] ++ member_row "uTF8String" 12 0 0 0 []
    ++ 9 ∷ 8 ∷ 1 ∷ 12 ∷ 4 ∷ member_row "subclassOf" 19 0 0 1 [] ++ member_row "kind" 20 0 0 2 (1 ∷ []) ++ member_row "mandatories" 19 1 3 1 [] ++ member_row "optionals" 19 1 4 1 []
    ++ 15 ∷ 0 ∷ 21 ∷ 3 ∷ 5 ∷ []

-- four values with identifier 2.5.6.18: with the name "foobar" alone; with the names "Oboe" and "FooBar", a description, and obsolete TRUE; with no
-- list of names; with an empty one
abbrev described : List (List ℕ)
described =
    hex "3023060355061231081306666F6F626172A012301031050603550600A30731050603550403"
    ∷ hex "30320603550612310E0C044F626F651306466F6F4261720C04726565640101FFA012301031050603550600A30731050603550403"
    ∷ hex "30190603550612A012301031050603550600A30731050603550403"
    ∷ hex "301B06035506123100A012301031050603550600A30731050603550403"
    ∷ []

descriptions_good : shown_table object_class_description ∷ map (shown_value object_class_description) described ≡ (0 ∷ 22 ∷ []) ∷ (0 ∷ []) ∷ (0 ∷ []) ∷ (0 ∷ []) ∷ (0 ∷ []) ∷ []
unfolding engine_computes
descriptions_good = refl

unfoldable pub answer_of : List ℕ → List ℕ → Report
answer_of f v = ask_report limits known_rules object_class_description v f 65535

unfoldable pub asked : String → List Report
asked f = map (answer_of (bytes f)) described

-- the object class 2.5.6.18
pub identifiers : asked "item:{ component \"identifier\", rule objectIdentifierMatch, value 2.5.6.18 }" ≡ answers TRUE 1 ∷ answers TRUE 1 ∷ answers TRUE 1 ∷ answers TRUE 1 ∷ []
unfolding engine_computes answer_of asked
identifiers = refl

-- called foobar
pub called : asked "item:{ component \"name.*\", rule caseIgnoreMatch, value \"foobar\" }" ≡ answers TRUE 1 ∷ answers TRUE 2 ∷ answers FALSE 0 ∷ answers FALSE 0 ∷ []
unfolding engine_computes answer_of asked
called = refl

-- with exactly one name
pub one_name : asked "item:{ component \"name.0\", rule integerMatch, value 1 }" ≡ answers TRUE 1 ∷ answers FALSE 1 ∷ answers FALSE 0 ∷ answers FALSE 1 ∷ []
unfolding engine_computes answer_of asked
one_name = refl

-- that have descriptions, and that don't
pub with_description : asked "item:{ component \"description\", rule presentMatch, value NULL }" ≡ answers FALSE 0 ∷ answers TRUE 1 ∷ answers FALSE 0 ∷ answers FALSE 0 ∷ []
unfolding engine_computes answer_of asked
with_description = refl

pub without_description : asked "not:item:{ component \"description\", rule presentMatch, value NULL }" ≡ answers TRUE 0 ∷ answers FALSE 1 ∷ answers TRUE 0 ∷ answers TRUE 0 ∷ []
unfolding engine_computes answer_of asked
without_description = refl

-- obsolete ones; those that aren't; those where FALSE was stored, which DER never has
pub obsolete : asked "item:{ component \"obsolete\", rule booleanMatch, value TRUE }" ≡ answers FALSE 1 ∷ answers TRUE 1 ∷ answers FALSE 1 ∷ answers FALSE 1 ∷ []
unfolding engine_computes answer_of asked
obsolete = refl

pub in_use : asked "item:{ component \"obsolete\", rule booleanMatch, value FALSE }" ≡ answers TRUE 1 ∷ answers FALSE 1 ∷ answers TRUE 1 ∷ answers TRUE 1 ∷ []
unfolding engine_computes answer_of asked
in_use = refl

pub stored_false : asked "item:{ component \"obsolete\", useDefaultValues FALSE, rule booleanMatch, value FALSE }" ≡ answers FALSE 0 ∷ answers FALSE 1 ∷ answers FALSE 0 ∷ answers FALSE 0 ∷ []
unfolding engine_computes answer_of asked
stored_false = refl

-- with a mandatory attribute, by its object identifier; by its name, and by rules that the base doesn't know, the assertion is Undefined
pub mandatory : asked "item:{ component \"information.mandatories.*\", rule objectIdentifierMatch, value 2.5.4.3 }" ≡ answers TRUE 1 ∷ answers TRUE 1 ∷ answers TRUE 1 ∷ answers TRUE 1 ∷ []
unfolding engine_computes answer_of asked
mandatory = refl

pub undefined : map (λ f. answer_of (bytes f) (hex "30190603550612A012301031050603550600A30731050603550403")) ("item:{ component \"information.mandatories.*\", rule objectIdentifierMatch, value cn }"
    ∷ "item:{ component \"information.kind\", rule allComponentsMatch, value auxiliary }" ∷ "item:{ component \"description\", rule caseIgnoreSubstringsMatch, value { any:\"bogus\" } }" ∷ [])
    ≡ answers UNDEFINED 0 ∷ answers UNDEFINED 0 ∷ answers UNDEFINED 0 ∷ []
unfolding engine_computes answer_of
undefined = refl

-- less than three names, a present but empty list included, an absent one not; and with an absent one too
pub few-names : asked "item:{ component \"name.0\", rule integerOrderingMatch, value 3 }" ≡ answers TRUE 1 ∷ answers TRUE 1 ∷ answers FALSE 0 ∷ answers TRUE 1 ∷ []
unfolding engine_computes answer_of asked
few-names = refl

pub few-or_none : asked "or:{ not:item:{ component \"name\", rule presentMatch, value NULL }, item:{ component \"name.0\", rule integerOrderingMatch, value 3 } }"
    ≡ answers TRUE 2 ∷ answers TRUE 2 ∷ answers TRUE 0 ∷ answers TRUE 2 ∷ []
unfolding engine_computes answer_of asked
few-or_none = refl
