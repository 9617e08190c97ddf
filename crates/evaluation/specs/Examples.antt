-- Computed examples.
use Rattle.std.specs.Prelude.{◌≡◌, refl, [], ◌∷◌, map, ℕ}
use Rattle.filter.specs.Filter.{Join, and, or, Filter, item, list, inverse, end_filters, next}
use Rattle.evaluation.specs.Truth.{Truth, TRUE, FALSE, UNDEFINED, every_truth, any_truth, conjunction, disjunction}
use Rattle.evaluation.specs.Reading.{Outcome, settled, reading}

-- ---- lists and `not`
joins : conjunction [] ∷ conjunction (TRUE ∷ UNDEFINED ∷ []) ∷ conjunction (UNDEFINED ∷ FALSE ∷ []) ∷ conjunction (TRUE ∷ TRUE ∷ []) ∷ disjunction [] ∷ disjunction (FALSE ∷ UNDEFINED ∷ [])
    ∷ disjunction (UNDEFINED ∷ TRUE ∷ []) ∷ disjunction (FALSE ∷ FALSE ∷ []) ∷ []
    ≡ TRUE ∷ UNDEFINED ∷ FALSE ∷ TRUE ∷ FALSE ∷ UNDEFINED ∷ TRUE ∷ FALSE ∷ []
unfolding conjunction disjunction every_truth any_truth
joins = refl

-- an item here is its own outcome
abbrev one : Truth → ℕ → Filter Outcome
one t n = item (settled t n)

abbrev read : Filter Outcome → Outcome
read f = reading (λ o. o) f

abbrev three : Join → Filter Outcome → Filter Outcome → Filter Outcome → Outcome
three j a b c = read (list j (next a (next b (next c end_filters))))

-- `and` stops at its first FALSE, `or` at its first TRUE; Undefined stops nothing; what comes after a stop makes no test
stops : three and (one TRUE 1) (one FALSE 2) (one TRUE 4) ∷ three or (one FALSE 1) (one TRUE 2) (one FALSE 4) ∷ three and (one UNDEFINED 0) (one TRUE 2) (one FALSE 4)
    ∷ three or (one UNDEFINED 0) (one FALSE 2) (one TRUE 4) ∷ three and (one UNDEFINED 0) (one TRUE 2) (one TRUE 4) ∷ three or (one FALSE 1) (one UNDEFINED 0) (one FALSE 4) ∷ []
    ≡ settled FALSE 3 ∷ settled TRUE 3 ∷ settled FALSE 6 ∷ settled TRUE 6 ∷ settled UNDEFINED 6 ∷ settled UNDEFINED 5 ∷ []
unfolding reading
stops = refl

nots : map (λ t. read (inverse (one t 1))) (TRUE ∷ FALSE ∷ UNDEFINED ∷ []) ≡ settled FALSE 1 ∷ settled TRUE 1 ∷ settled UNDEFINED 1 ∷ []
unfolding reading
nots = refl
