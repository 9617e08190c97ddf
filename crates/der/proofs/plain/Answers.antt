use Rattle.der.proofs.MeaningSteps.{plain-start, plain-times, plain-plus, plain_more, plain_end}
use Rattle.der.proofs.plain.Goals as goal

pub loop-b-init : goal.loop-b-init
loop-b-init c = search plain-start

pub overflow_mul-n : goal.overflow_mul-n
overflow_mul-n c = record { fits = search plain-times }

pub overflow_add-n : goal.overflow_add-n
overflow_add-n c = record { fits = search plain-plus }

pub loop-b-preserved : goal.loop-b-preserved
loop-b-preserved c = search plain_more

pub returns : goal.returns
returns c = search plain_end
