-- The rule of an assertion with what it asserts: none where "its rule is unknown or not for that type, or its value text doesn't conform".
use Rattle.std.specs.Prelude.{ℕ, List}
use Rattle.std.specs.Prelude.{Option, None, Some}
use Rattle.octets.specs.Pick.{pick, bind}
use Rattle.reference.specs.Allowed.{Target}
use Rattle.rules.specs.Rule.{Rule, Known, rule_of}
use Rattle.rules.specs.Suits.{suits}
use Rattle.rules.specs.Asserted.{Asserted, asserted_of}

pub record Comparison : Type 0 where
  pub rule : Rule
  pub asserted : Asserted

abbrev pub comparison : Rule → Asserted → Comparison
comparison r a = record { rule = r; asserted = a }

-- a rule that is for the target g, with what the value text asserts there
abbrev pub if_for : Target → List ℕ → Rule → Option Comparison
if_for g value r = pick (suits r g) (bind (asserted_of r g value) (λ a. Some (comparison r a))) None

-- of its rule's text and its value text, at what its reference leads to; ks are the known rules
unfoldable pub rule_for : List Known → Target → List ℕ → List ℕ → Option Comparison
rule_for ks g rule value = bind (rule_of ks rule) (if_for g value)
