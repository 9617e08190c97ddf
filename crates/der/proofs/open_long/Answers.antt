use Rattle.der.proofs.Steps.{length-ends, long-is, long-past, long_unusable}
use Rattle.der.proofs.open_long.Goals as goal

pub returns-in_default : goal.returns-in_default
returns-in_default c = search long_unusable

pub overflow_sub-end : goal.overflow_sub-end
overflow_sub-end c = search length-ends

pub returns-then-end-next : goal.returns-then-end-next
returns-then-end-next c = search long-past

pub returns : goal.returns
returns c = search long-is
