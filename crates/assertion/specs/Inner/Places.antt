-- What the code's answers say: the contents of a text at the places that they give.
use Rattle.std.specs.Prelude.{ℕ, ◌+◌, Bool, List, length, drop}
use Rattle.std.specs.Prelude.{Option, None, Some}
use Rattle.octets.specs.Pick.{pick}
use Rattle.octets.specs.Inner.Answers.{between}
use Rattle.octets.specs.Text.{starts}
use Rattle.octets.specs.Quoted.{characters}
use Rattle.assertion.specs.Item.{Item}
use Rattle.assertion.specs.ValueText.{ValueText}
use Rattle.assertion.specs.Assertion.{Read, read_to}
use Rattle.assertion.specs.declared.Quotes.{Quotes}
use Rattle.assertion.specs.declared.Part.{Part}
use Rattle.assertion.specs.declared.Parts.{Parts}

-- the place after a word that stands at a place
unfoldable pub word_at : List ℕ → List ℕ → ℕ → Option ℕ
word_at w s at = pick (starts w (drop at s)) (Some (at + length w)) None

-- between two quotes
abbrev pub within_quotes : List ℕ → ℕ → ℕ → List ℕ
within_quotes s a b = between s (a + 1) b

-- ---- `component`: missing, or between its quotes
abbrev pub component_of : List ℕ → Option Quotes → Option (List ℕ)
component_of s None = None
component_of s (Some q) = Some (characters s q.open q.close)

abbrev pub report_component_part : List ℕ → Option (Option Quotes × ℕ) → Option (Read (Option (List ℕ)))
report_component_part s (Some (c, after)) = read_to (component_of s c) after
report_component_part s None = None

-- ---- `useDefaultValues`
abbrev pub report_defaults_part : Option (Bool × ℕ) → Option (Read Bool)
report_defaults_part (Some (d, after)) = read_to d after
report_defaults_part None = None

-- ---- `rule`
abbrev pub report_rule_part : List ℕ → Option Part → Option (Read (List ℕ))
report_rule_part s (Some p) = read_to (between s p.start p.end) p.after
report_rule_part s None = None

-- ---- `value`
abbrev pub report_value_part : List ℕ → Option Part → Option ValueText
report_value_part s (Some p) = Some (record { text = between s p.start p.end; brace = p.after })
report_value_part s None = None

-- ---- the assertion
-- the item whose parts stand at these places
abbrev pub item_of : List ℕ → Parts → Item
item_of s p = record {
  component = component_of s p.component;
  defaults = p.defaults;
  rule = between s p.rule p.rule_end;
  value = between s p.value p.value_end;
}

abbrev pub report_assertion : List ℕ → Option Parts → Option (Read Item)
report_assertion s (Some p) = read_to (item_of s p) p.after
report_assertion s None = None
