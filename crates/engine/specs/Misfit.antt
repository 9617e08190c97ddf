-- Refusal 7's condition for a filter, on the octets reached: "walking a checked value from its first octet along the reference, .. the engine reaches"
-- a header "that doesn't fit"; "each value being reached just before its test".
use Rattle.std.specs.Prelude.{ℕ, ◌+◌, Bool, false, List, leb}
use Rattle.std.specs.Prelude.{Option, None, Some}
use Rattle.octets.specs.Pick.{pick}
use Rattle.types.specs.Types.{Ty}
use Rattle.reference.specs.Numbers.{Component}
use Rattle.misfit.specs.Trail.{Trail, done, misfit, reach, trail}
use Rattle.rules.specs.Rule.{Known}
use Rattle.rules.specs.Accepts.{accepts_component}
use Rattle.filter.specs.Filter.{Item, Join, Filter, Filters, item, list, inverse, end_filters, next}
use Rattle.evaluation.specs.Truth.{TRUE, FALSE, UNDEFINED}
use Rattle.evaluation.specs.Reading.{Outcome, settled, of_none, stops, and_then, inverted}
use Rattle.evaluation.specs.Assertion.{Asked, asked}

-- what is met along the octets: the end, with an outcome; or, after so many tests, a header that doesn't fit
pub data Met : Type 0 where
  ends : Outcome → Met
  misfit_after : ℕ → Met

-- ---- an assertion: its tests along the trail of its reference, after n tests
unfoldable pub testing_trail : (Component → Bool) → ℕ → Trail → Met
testing_trail accepted n done = ends (settled FALSE n)
testing_trail accepted n misfit = misfit_after n
testing_trail accepted n (reach c a) =
    let rest = testing_trail accepted (n + 1) a in
    pick (accepted c) (ends (settled TRUE (n + 1))) rest

abbrev pub along_trail_of : Ty → List ℕ → Item → Option Asked → Met
along_trail_of ty v i None = ends (settled UNDEFINED 0)
along_trail_of ty v i (Some a) = testing_trail (accepts_component a.rule a.asserted) 0 (trail i.defaults a.ids ty v)

unfoldable pub along_trail : List Known → Ty → List ℕ → Item → Met
along_trail ks ty v i = along_trail_of ty v i (asked ks ty i)

-- ---- a filter, from left to right: what comes after a stop is not reached
-- a header m tests into the rest of a list, behind a filter with an outcome
abbrev pub unless_stopped : Join → Outcome → ℕ → Met
unless_stopped j (settled t n) m = pick (stops j t) (ends (settled t n)) (misfit_after (n + m))

abbrev pub with_rest_met : Join → Outcome → Met → Met
with_rest_met j o (ends r) = ends (and_then j o r)
with_rest_met j o (misfit_after m) = unless_stopped j o m

abbrev pub and_then_met : Join → Met → Met → Met
and_then_met j (ends o) rest = with_rest_met j o rest
and_then_met j (misfit_after n) rest = misfit_after n

abbrev pub inverted_met : Met → Met
inverted_met (ends o) = ends (inverted o)
inverted_met (misfit_after n) = misfit_after n

unfoldable mutual
  pub reading_met : {A : Type 0} → (A → Met) → Filter A → Met
  reading_met meets (item i) = meets i
  reading_met meets (list j fs) = reading_met_in meets j fs
  reading_met meets (inverse f) = inverted_met (reading_met meets f)

  pub reading_met_in : {A : Type 0} → (A → Met) → Join → Filters A → Met
  reading_met_in meets j end_filters = ends (settled (of_none j) 0)
  reading_met_in meets j (next f fs) =
      let rest = reading_met_in meets j fs in
      and_then_met j (reading_met meets f) rest

-- a header that doesn't fit is met after at most the budget's tests
abbrev pub misfit_within : ℕ → Met → Bool
misfit_within budget (ends o) = false
misfit_within budget (misfit_after n) = leb n budget

unfoldable pub meets_misfit : List Known → Ty → List ℕ → ℕ → Filter Item → Bool
meets_misfit ks ty v budget f = misfit_within budget (reading_met (along_trail ks ty v) f)
