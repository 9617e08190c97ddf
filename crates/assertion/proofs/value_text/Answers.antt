use Rattle.assertion.proofs.Steps.{value_open, value-within, value-fits, value-empty, value-is}
use native.Mathlib.Omega.{arith}
use Rattle.assertion.proofs.value_text.Goals as goal

pub returns-in_err-brace : goal.returns-in_err-brace
returns-in_err-brace c = rw c.from_residual.ensures (search (value_open, c.in_err-brace.was))

pub overflow_sub-brace : goal.overflow_sub-brace
overflow_sub-brace c = omega (arith, value-within c.args.s.now c.args.at _ c.brace_at.ensures _ c.in_ok-brace.was)

pub returns-then-n-eq0 : goal.returns-then-n-eq0
returns-then-n-eq0 c = search (value-empty, c.in_ok-brace.was)

pub overflow_add-result : goal.overflow_add-result
overflow_add-result c = let a = c.args in omega (arith, value-within a.s.now a.at _ c.brace_at.ensures _ c.in_ok-brace.was, value-fits a.s.now a.at _ c.brace_at.ensures _ c.in_ok-brace.was _ _ c.part.ensures c.trimmed_length-n.ensures)

pub returns : goal.returns
returns c = search (value-is, c.in_ok-brace.was)
