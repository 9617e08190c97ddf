use Rattle.der.proofs.TimeSteps.{digits-start, digits-times, digits-plus, digits_more, digits-end, digits_small}
use Rattle.der.proofs.digits.Goals as goal

pub loop-b-init : goal.loop-b-init
loop-b-init c = search digits-start

pub overflow_mul-v : goal.overflow_mul-v
overflow_mul-v c = record { fits = search digits-times }

pub overflow_add-v : goal.overflow_add-v
overflow_add-v c = record { fits = search digits-plus }

pub loop-b-preserved : goal.loop-b-preserved
loop-b-preserved c = search digits_more

pub returns : goal.returns
returns c = record { value = search digits-end; small = search digits_small }
