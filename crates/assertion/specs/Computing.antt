-- The definitions of this crate and those below, as one name for the `unfolding` line of a computed example.
use Rattle.std.specs.Prelude.{ℕ}
use Rattle.der.specs.Computing.{der_computes}
use Rattle.assertion.specs.Spaces.{label_at, mark_at}
use Rattle.assertion.specs.ValueText.{brace_from, brace_at, value_text_at}
use Rattle.assertion.specs.Assertion.{component_at, defaults_at, is_rule_name, is_rule, comma_from, rule_at, value_at, assertion_at}

unfoldable pub assertion_computes : ℕ
unfolding der_computes label_at mark_at brace_from brace_at value_text_at component_at defaults_at is_rule_name is_rule comma_from rule_at value_at assertion_at
assertion_computes = 0
