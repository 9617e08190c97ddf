-- Document 02, Q-2: a licence's rights as named bits, put to the entries.
use Rattle.std.specs.Prelude.{◌≡◌, refl, List, [], ◌∷◌, ◌++◌, map, ℕ}
use Prim.Native.String.{String}
use Rattle.octets.specs.Octets.{hex}
use Rattle.types.specs.Paper.{member_row, rights}
use Rattle.rules.specs.Rule.{known_rules}
use Rattle.engine.specs.Paper.{limits}
use Rattle.evaluation.specs.Truth.{TRUE, FALSE, UNDEFINED}
use Rattle.engine.specs.Answer.{Report, answers, refused, ask_report}
use Rattle.engine.specs.Computing.{engine_computes}
use Rattle.demands.specs.Licence.{put}
use Rattle.demands.specs.Shown.{shown_table, shown_value}

-- SEQUENCE { event UTF8String, rights BIT STRING { print (0), perform (1), record (2) }, marks BIT STRING OPTIONAL [0] implicit }
abbrev rights_table : List ℕ
rights_table = 12 ∷ 3 ∷ member_row "event" 4 0 0 0 [] ++ member_row "rights" 5 0 0 0 [] ++ member_row "marks" 9 2 0 1 [] ++ 8 ∷ rights ++ 7 ∷ []

-- { event "Gala", rights {print, perform}, marks '110'B }; the same with a trailing zero bit in rights
abbrev gala : List ℕ
gala = hex "300E0C0447616C61030206C0800205C0"

rights-good : shown_table rights_table ∷ map (shown_value rights_table) (gala ∷ hex "300E0C0447616C61030205C0800205C0" ∷ [])
    ≡ (0 ∷ 10 ∷ []) ∷ (0 ∷ []) ∷ (4 ∷ []) ∷ []
unfolding engine_computes
rights-good = refl

unfoldable pub asks : String → String → Report
asks reference value = ask_report limits known_rules rights_table gala (put reference "bitStringMatch" value) 65535

-- "`'110'B` missed a stored `'11'B`": with names it is found; a list of names; an unknown name; without names as before; a brace that isn't closed
pub rights-asked : map (asks "rights") ("'110'B" ∷ "'11'B" ∷ "{ print, perform }" ∷ "{print}" ∷ "{print,sell}" ∷ "{print" ∷ [])
    ++ map (asks "marks") ("'110'B" ∷ "'11'B" ∷ "{print,perform}" ∷ "{}" ∷ [])
    ≡ answers TRUE 1 ∷ answers TRUE 1 ∷ answers TRUE 1 ∷ answers FALSE 1 ∷ answers UNDEFINED 0 ∷ refused 3
    ∷ answers TRUE 1 ∷ answers FALSE 1 ∷ answers UNDEFINED 0 ∷ answers UNDEFINED 0 ∷ []
unfolding engine_computes asks
rights-asked = refl
