use Rattle.assertion.proofs.Steps.{rule_endless, rule-within, rule-other, rule-alone, rule-is}
use native.Mathlib.Omega.{arith}
use Rattle.assertion.proofs.rule_from.Goals as goal

pub returns-in_err-end : goal.returns-in_err-end
returns-in_err-end c = rw c.from_residual.ensures (search (rule_endless, c.in_err-end.was))

pub overflow_sub-end : goal.overflow_sub-end
overflow_sub-end c = omega (arith, rule-within c.args.s.now c.args.at _ c.comma_at.ensures _ c.in_ok-end.was)

pub returns-then-not-is_rule : goal.returns-then-not-is_rule
returns-then-not-is_rule c = search (rule-other, c.in_ok-end.was)

pub returns-in_err-after : goal.returns-in_err-after
returns-in_err-after c = rw c.from_residual-in_err-after.ensures (search (rule-alone, c.in_ok-end.was, c.in_err-after.was))

pub returns : goal.returns
returns c = search (rule-is, c.in_ok-end.was, c.in_ok-after.was)
