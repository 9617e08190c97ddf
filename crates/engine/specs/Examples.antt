-- Computed examples.
use Rattle.std.specs.Prelude.{◌≡◌, refl, Bool, true, false, List, [], ◌∷◌, map, ℕ, set, replicate}
use Rattle.std.specs.Prelude.{Some}
use Prim.Native.String.{String}
use Rattle.octets.specs.Octets.{bytes, hex}
use Rattle.types.specs.Types.{type_at}
use Rattle.rows.specs.Paper.{table_limits}
use Rattle.types.specs.Paper.{licence}
use Rattle.value.specs.Paper.{licence_record}
use Rattle.reference.specs.Reference.{all, Id, name, index}
use Rattle.evaluation.specs.Truth.{TRUE, FALSE, UNDEFINED}
use Rattle.evaluation.specs.Reading.{settled}
use Rattle.misfit.specs.Trail.{Trail, trail, has_misfit}
use Rattle.rules.specs.Rule.{known_rules}
use Rattle.filter.specs.Filter.{Item, Join, and, or, item, list, inverse, end_filters, next}
use Rattle.engine.specs.Misfit.{Met, ends, misfit_after, along_trail, reading_met, misfit_within}
use Rattle.engine.specs.Answer as answer
use Rattle.engine.specs.Answer.{budgeted, ask_report}
use Rattle.engine.specs.Listing.{Listing, list_report, refused_list, lists}
use Rattle.engine.specs.Paper.{limits}
use Rattle.engine.specs.Computing.{engine_computes}

-- 5 where the tests needed exceed the budget
budgets : budgeted 2 (settled TRUE 2) ∷ budgeted 1 (settled TRUE 2) ∷ [] ≡ answer.answers TRUE 2 ∷ answer.refused 5 ∷ []
unfolding engine_computes
budgets = refl

-- ---- the licence record
ask : String → answer.Report
ask s = ask_report limits known_rules licence licence_record (bytes s) 65535

-- Undefined: malformed or unknown reference; unknown rule; a rule not for the type; a value text that doesn't conform. FALSE: nothing is named
assertions : map ask ("item:{component \"\",rule presentMatch,value NULL}" ∷ "item:{component \"seat\",rule presentMatch,value NULL}" ∷ "item:{component \"seats\",rule noSuchMatch,value 1}"
    ∷ "item:{component \"event\",rule integerMatch,value 1}" ∷ "item:{component \"seats\",rule integerMatch,value -0}" ∷ "item:{component \"parts.3\",rule presentMatch,value NULL}" ∷ "item:{component \"parts.-3\",rule presentMatch,value NULL}"
    ∷ "item:{rule presentMatch,value NULL}" ∷ "item:{component \"parts.*.name\",rule caseIgnoreMatch,value \"VA\"}" ∷ "item:{component \"parts.0\",rule integerMatch,value 2}" ∷ [])
    ≡ answer.answers UNDEFINED 0 ∷ answer.answers UNDEFINED 0 ∷ answer.answers UNDEFINED 0 ∷ answer.answers UNDEFINED 0 ∷ answer.answers UNDEFINED 0 ∷ answer.answers FALSE 0 ∷ answer.answers FALSE 0
    ∷ answer.answers TRUE 1 ∷ answer.answers TRUE 2 ∷ answer.answers TRUE 1 ∷ []
unfolding engine_computes ask
assertions = refl

-- refusals in their order: each question has this cause and all later ones
abbrev bad : List ℕ
bad = hex "3000"

refusals : ask_report limits known_rules [] bad (bytes "x") 65536 ∷ ask_report limits known_rules licence [] (bytes "x") 0 ∷ ask_report limits known_rules licence licence_record [] 0 ∷ ask_report limits known_rules licence bad (bytes "x") 65536
    ∷ ask_report limits known_rules (0 ∷ []) bad (bytes "x") 0 ∷ ask_report limits known_rules licence bad (bytes "x") 0 ∷ ask_report limits known_rules licence bad (bytes "item:{component \"seats\",rule presentMatch,value NULL}") 0
    ∷ ask_report limits known_rules licence licence_record (bytes "item:{component \"seats\",rule presentMatch,value NULL}") 0 ∷ []
    ≡ answer.refused 1 ∷ answer.refused 1 ∷ answer.refused 1 ∷ answer.refused 1 ∷ answer.refused 2 ∷ answer.refused 3 ∷ answer.refused 4 ∷ answer.refused 5 ∷ []
unfolding engine_computes
refusals = refl

-- ---- the listing
listing : List ℕ → List ℕ → Bool → List ℕ → ℕ → Listing
listing t v given r n = list_report limits t v given r true (replicate n 99)

abbrev gives : ℕ → List ℕ → Listing
gives n memory = record { report = lists n; memory = memory }

-- no reference names the whole value, whatever octets come with it; nothing named needs no room
whole : listing licence licence_record false (replicate 2049 46) 4 ∷ listing licence licence_record true (bytes "parts.3") 0 ∷ [] ≡ gives 1 (0 ∷ 0 ∷ 23 ∷ 99 ∷ []) ∷ gives 0 [] ∷ []
unfolding engine_computes listing
whole = refl

-- a default for each enclosing SEQUENCE that lacks it
two-defaults : listing licence (hex "30120C026531300C300413025661300413025662") true (bytes "parts.*.copies") 6 ≡ gives 2 (1 ∷ 8 ∷ 9 ∷ 1 ∷ 14 ∷ 9 ∷ [])
unfolding engine_computes listing
two-defaults = refl

-- refusals in their order; each leaves the room as it was
listing_refusals : listing [] bad true [] 2 ∷ listing licence bad true (replicate 2049 46) 2 ∷ listing (0 ∷ []) bad true [] 2 ∷ listing licence bad true [] 2 ∷ listing licence bad true (bytes "seat") 2 ∷ listing licence bad true (bytes "seats") 2
    ∷ listing licence licence_record true (bytes "seats") 2 ∷ []
    ≡ map (λ n. refused_list n (99 ∷ 99 ∷ [])) (1 ∷ 1 ∷ 2 ∷ 3 ∷ 3 ∷ 4 ∷ 6 ∷ [])
unfolding engine_computes listing
listing_refusals = refl

-- ---- a header that doesn't fit: the second part's length is one more, then its tag another
walk : List Id → List ℕ → Trail
walk is v = trail true is (type_at table_limits licence 0) v

abbrev copies : List Id
copies = name (bytes "parts") ∷ index all ∷ name (bytes "copies") ∷ []

faults : map (λ v. has_misfit (walk copies v)) (licence_record ∷ set licence_record 15 8 ∷ set licence_record 14 49 ∷ set licence_record 0 49 ∷ set licence_record 12 80 ∷ []) ≡ false ∷ true ∷ true ∷ true ∷ false ∷ []
unfolding engine_computes walk
faults = refl

-- an assertion's tests up to the fault; one that accepts a value before it, and a walk that doesn't come there, meet none
abbrev asserting : String → String → Item
asserting reference n = record { component = Some (bytes reference); defaults = true; rule = bytes "integerMatch"; value = bytes n }

met : List ℕ → Item → Met
met v i = along_trail known_rules (type_at table_limits licence 0) v i

before : map (met (set licence_record 15 8)) (asserting "parts.*.copies" "5" ∷ asserting "parts.*.copies" "1" ∷ asserting "parts.1.copies" "5" ∷ [])
    ≡ misfit_after 1 ∷ ends (settled TRUE 1) ∷ ends (settled FALSE 1) ∷ []
unfolding engine_computes met
before = refl

none_met : met licence_record (asserting "parts.*.copies" "5") ≡ ends (settled FALSE 2)
unfolding engine_computes met
none_met = refl

-- a filter: an item here is what is met in it; what comes after a stop is not reached
abbrev two : Join → Met → Met → Met
two j a b = reading_met (λ m. m) (list j (next (item a) (next (item b) end_filters)))

reached : two and (ends (settled FALSE 1)) (misfit_after 2) ∷ two or (ends (settled FALSE 1)) (misfit_after 2) ∷ two and (ends (settled UNDEFINED 0)) (misfit_after 2)
    ∷ two and (misfit_after 2) (ends (settled FALSE 1)) ∷ reading_met (λ m. m) (inverse (item (misfit_after 2))) ∷ []
    ≡ ends (settled FALSE 1) ∷ misfit_after 3 ∷ misfit_after 2 ∷ misfit_after 2 ∷ misfit_after 2 ∷ []
unfolding engine_computes
reached = refl

-- of 5 and 7 the first met: a header after three tests
within : misfit_within 2 (misfit_after 3) ∷ misfit_within 3 (misfit_after 3) ∷ misfit_within 3 (ends (settled TRUE 1)) ∷ [] ≡ false ∷ true ∷ false ∷ []
within = refl
