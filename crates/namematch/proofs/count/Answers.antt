use Rattle.namematch.proofs.Steps.{count_full, count-misfit, count_falls, count-more, count-done}
use Rattle.der.proofs.NameSteps.{contents-fit}
use Rattle.namematch.proofs.count.Goals as goal

pub returns-then-most-n : goal.returns-then-most-n
returns-then-most-n c = search count_full

pub returns-in_default : goal.returns-in_default
returns-in_default c = search count-misfit

pub overflow_add-at : goal.overflow_add-at
overflow_add-at c = record { fits = search contents-fit }

pub loop-at-smaller : goal.loop-at-smaller
loop-at-smaller c = search count_falls

pub loop-at-preserved : goal.loop-at-preserved
loop-at-preserved c = search count-more

pub returns : goal.returns
returns c = search count-done
