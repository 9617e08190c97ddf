-- Document 02, Q-4: "educationalConcessionCategory", put to the entries.
use Rattle.std.specs.Prelude.{◌≡◌, refl, List, [], ◌∷◌, ◌++◌, map, ℕ}
use Prim.Native.String.{String}
use Rattle.octets.specs.Octets.{hex}
use Rattle.types.specs.Paper.{member_row, long_row}
use Rattle.rules.specs.Rule.{known_rules}
use Rattle.engine.specs.Paper.{limits}
use Rattle.evaluation.specs.Truth.{TRUE, FALSE, UNDEFINED}
use Rattle.engine.specs.Answer.{Report, answers, ask_report}
use Rattle.engine.specs.Computing.{engine_computes}
use Rattle.demands.specs.Licence.{put}
use Rattle.demands.specs.Shown.{shown_table, shown_value}

-- SEQUENCE { event UTF8String, educationalConcessionCategory INTEGER DEFAULT 1, educationalConcessionCat BOOLEAN }: the third name is the first 24 letters
-- of the second
abbrev concession_table : List ℕ
concession_table =
    12 ∷ 3 ∷ member_row "event" 4 0 0 0 [] ++ long_row "educationalConcessionCategory" 5 0 0 2 (1 ∷ []) ++ member_row "educationalConcessionCat" 6 0 0 0 []
    ++ 8 ∷ 2 ∷ 1 ∷ []

-- { event "Gala", educationalConcessionCategory 3, educationalConcessionCat TRUE }; the same with the category at its default
abbrev gala : List ℕ
gala = hex "300C0C0447616C610201030101FF"

abbrev gala_by_default : List ℕ
gala_by_default = hex "30090C0447616C610101FF"

concession_good : shown_table concession_table ∷ map (shown_value concession_table) (gala ∷ gala_by_default ∷ hex "300C0C0447616C610201010101FF" ∷ [])
    ≡ (0 ∷ 7 ∷ []) ∷ (0 ∷ []) ∷ (0 ∷ []) ∷ (4 ∷ []) ∷ []
unfolding engine_computes
concession_good = refl

unfoldable pub asks : List ℕ → String → String → String → Report
asks stored reference rule value = ask_report limits known_rules concession_table stored (put reference rule value) 65535

-- the whole name; its default; its first 24 letters are another member's; 23, 28 and 30 letters, and another case, are no member's
pub concession_asked : asks gala "educationalConcessionCategory" "integerMatch" "3" ∷ asks gala_by_default "educationalConcessionCategory" "integerMatch" "1"
    ∷ asks gala "educationalConcessionCategory" "integerMatch" "4" ∷ asks gala "educationalConcessionCat" "booleanMatch" "TRUE"
    ∷ asks gala "educationalConcessionCat" "integerMatch" "3" ∷ asks gala "educationalConcessionCa" "integerMatch" "3"
    ∷ asks gala "educationalConcessionCategor" "integerMatch" "3" ∷ asks gala "educationalConcessionCategorys" "integerMatch" "3"
    ∷ asks gala "educationalConcessionCategorY" "integerMatch" "3" ∷ []
    ≡ answers TRUE 1 ∷ answers TRUE 1 ∷ answers FALSE 1 ∷ answers TRUE 1 ∷ answers UNDEFINED 0 ∷ answers UNDEFINED 0 ∷ answers UNDEFINED 0
    ∷ answers UNDEFINED 0 ∷ answers UNDEFINED 0 ∷ []
unfolding engine_computes asks
concession_asked = refl
