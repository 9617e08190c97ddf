use Rattle.der.proofs.NameSteps.{value-misfit, value-starts, value_before-end, value-is}
use Rattle.der.proofs.legal_value.Goals as goal

pub returns-in_default : goal.returns-in_default
returns-in_default c = search value-misfit

pub overflow_sub-c : goal.overflow_sub-c
overflow_sub-c c = search value-starts

pub returns-else-c-start : goal.returns-else-c-start
returns-else-c-start c = search value_before-end

pub returns-then-c-start : goal.returns-then-c-start
returns-then-c-start c = search value-is
