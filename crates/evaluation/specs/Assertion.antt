-- Rules: "An assertion is Undefined exactly if its reference is malformed or not allowed by the type, its rule is unknown or not for that type, or
-- its value text doesn't conform. Else TRUE if some named value is accepted, FALSE if none."
use Rattle.std.specs.Prelude.{ℕ, ◌+◌, Bool, List, [], ◌∷◌}
use Rattle.std.specs.Prelude.{Option, None, Some}
use Rattle.octets.specs.Pick.{pick, ◌>>=◌}
use Rattle.types.specs.Types.{Ty}
use Rattle.value.specs.Value.{Value}
use Rattle.reference.specs.Reference.{Id, identifiers}
use Rattle.reference.specs.Allowed.{allowed}
use Rattle.reference.specs.Named.{Held, named}
use Rattle.rules.specs.Rule.{Rule, Known}
use Rattle.rules.specs.Asserted.{Asserted}
use Rattle.rules.specs.RuleFor.{rule_for}
use Rattle.rules.specs.Accepts.{accepts}
use Rattle.filter.specs.Filter.{Item}
use Rattle.evaluation.specs.Truth.{TRUE, FALSE, UNDEFINED}
use Rattle.evaluation.specs.Reading.{Outcome, settled}

-- what an assertion asks of a type, where it isn't Undefined: the identifiers of its reference, its rule and what its value text asserts; ks are the
-- known rules
pub record Asked : Type 0 where
  pub ids : List Id
  pub rule : Rule
  pub asserted : Asserted

unfoldable pub asked : List Known → Ty → Item → Option Asked
asked ks ty i = do
  is ← identifiers i.component
  target ← allowed is ty
  x ← rule_for ks target i.rule i.value
  Some (record { ids = is; rule = x.rule; asserted = x.asserted })

-- "one [test] per value a rule is applied to. An assertion stops at its first accepted value": after n tests
unfoldable pub testing : (Held → Bool) → ℕ → List Held → Outcome
testing accepted n [] = settled FALSE n
testing accepted n (h ∷ hs) =
    let rest = testing accepted (n + 1) hs in
    pick (accepted h) (settled TRUE (n + 1)) rest

-- "an Undefined assertion makes no test"; any other tests what its reference names in the decoded value
abbrev pub outcome_of : Value → Item → Option Asked → Outcome
outcome_of x i None = settled UNDEFINED 0
outcome_of x i (Some a) = testing (accepts a.rule a.asserted) 0 (named i.defaults a.ids x)

unfoldable pub outcome : List Known → Ty → Value → Item → Outcome
outcome ks ty x i = outcome_of x i (asked ks ty i)
