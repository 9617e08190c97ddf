-- What demands 2 and 3 say of an assertion: what its reference names in the decoded value, the tests that its rule makes of it, and its truth.
use Rattle.std.specs.Prelude.{ℕ, suc, Bool, false, List, [], ◌∷◌, map}
use Rattle.std.specs.Prelude.{Option, None, Some}
use Rattle.octets.specs.Pick.{pick, either}
use Rattle.types.specs.Types.{Ty}
use Rattle.value.specs.Value.{Value}
use Rattle.reference.specs.Reference.{Id}
use Rattle.reference.specs.Named.{Held, named}
use Rattle.reference.specs.Numbers.{Component, component}
use Rattle.rules.specs.Rule.{Known}
use Rattle.rules.specs.Accepts.{accepts}
use Rattle.filter.specs.Filter.{Item}
use Rattle.evaluation.specs.Truth.{Truth, TRUE, FALSE, UNDEFINED}
use Rattle.evaluation.specs.Assertion.{Asked, asked}

-- "the component values that the reference names", with "either choice about defaults", as the octets have them
abbrev pub components : Bool → List Id → Value → List Component
components defaults is x = map component (named defaults is x)

-- one of these is accepted
unfoldable pub accepts_one : {A : Type 0} → (A → Bool) → List A → Bool
accepts_one accepted [] = false
accepts_one accepted (x ∷ xs) = either (accepted x) (accepts_one accepted xs)

-- the tests needed: one for each value up to the first accepted one
unfoldable pub needed : (Held → Bool) → List Held → ℕ
needed accepted [] = 0
needed accepted (h ∷ hs) = let more = suc (needed accepted hs) in pick (accepted h) 1 more

-- "TRUE if its rule accepts at least one value on that list, else FALSE"
abbrev pub truth_by : (Held → Bool) → List Held → Truth
truth_by accepted hs = pick (accepts_one accepted hs) TRUE FALSE

-- ---- an assertion about a decoded value, by what it asks of the type: nothing where document 01 makes it Undefined; ks are the known rules
abbrev pub truth_for : Value → Item → Option Asked → Truth
truth_for x i None = UNDEFINED
truth_for x i (Some a) = truth_by (accepts a.rule a.asserted) (named i.defaults a.ids x)

abbrev pub tests_for : Value → Item → Option Asked → ℕ
tests_for x i None = 0
tests_for x i (Some a) = needed (accepts a.rule a.asserted) (named i.defaults a.ids x)

abbrev pub item_truth : List Known → Ty → Value → Item → Truth
item_truth ks ty x i = truth_for x i (asked ks ty i)

abbrev pub item_tests : List Known → Ty → Value → Item → ℕ
item_tests ks ty x i = tests_for x i (asked ks ty i)
