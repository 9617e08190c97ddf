-- The steps of `rule_at` and `assertion_at`, each under a name of its own, for the functions that take them.
use Rattle.std.specs.Prelude.{ℕ, ◌+◌, ◌-◌, Bool, List, drop}
use Rattle.std.specs.Prelude.{Option, None}
use Rattle.octets.specs.Pick.{pick, bind}
use Rattle.octets.specs.Octets.{part}
use Rattle.assertion.specs.Item.{Item}
use Rattle.assertion.specs.ValueText.{ValueText}
use Rattle.assertion.specs.Assertion.{Read, read_to, followed, is_rule, comma_from, component_at, defaults_at, rule_at, value_at}

-- ---- `rule`, behind its label
abbrev pub rule_up_to : List ℕ → ℕ → ℕ → Option (Read (List ℕ))
rule_up_to s at end = pick (is_rule (part s at (end - at))) (followed s end (part s at (end - at))) None

unfoldable pub rule_from : List ℕ → ℕ → Option (Read (List ℕ))
rule_from s at = bind (comma_from (drop at s) at) (rule_up_to s at)

-- ---- rule and value, behind a reference or none and useDefaultValues
abbrev pub with_value : Option (List ℕ) → Bool → List ℕ → ValueText → Option (Read Item)
with_value c d r v = read_to (record { component = c; defaults = d; rule = r; value = v.text }) (v.brace + 1)

abbrev pub with_rule : List ℕ → Option (List ℕ) → Bool → Read (List ℕ) → Option (Read Item)
with_rule s c d r = bind (value_at s r.after) (with_value c d r.is)

unfoldable pub values_at : List ℕ → Option (List ℕ) → Bool → ℕ → Option (Read Item)
values_at s c d at = bind (rule_at s at) (with_rule s c d)

-- ---- the four parts, behind the opening brace
abbrev pub with_defaults : List ℕ → Option (List ℕ) → Read Bool → Option (Read Item)
with_defaults s c d = values_at s c d.is d.after

abbrev pub with_component : List ℕ → Read (Option (List ℕ)) → Option (Read Item)
with_component s c = bind (defaults_at s c.after) (with_defaults s c.is)

unfoldable pub parts_at : List ℕ → ℕ → Option (Read Item)
parts_at s at = bind (component_at s at) (with_component s)
