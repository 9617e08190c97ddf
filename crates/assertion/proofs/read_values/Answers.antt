use Rattle.assertion.proofs.Steps.{values_no_rule, values-no_value, brace-before, values_are}
use native.Mathlib.Omega.{arith}
use Rattle.assertion.proofs.read_values.Goals as goal

pub returns-in_err-rule : goal.returns-in_err-rule
returns-in_err-rule c = rw c.from_residual.ensures (search (values_no_rule, c.in_err-rule.was))

pub returns-in_err-value : goal.returns-in_err-value
returns-in_err-value c = rw c.from_residual-in_err-value.ensures (search (values-no_value, c.in_ok-rule.was, c.in_err-value.was))

pub overflow_add-result : goal.overflow_add-result
overflow_add-result c = omega (arith, brace-before c.args.s.now _ _ _ c.value_part.ensures c.in_ok-value.was)

pub returns : goal.returns
returns c = search (values_are, c.in_ok-rule.was, c.in_ok-value.was)
