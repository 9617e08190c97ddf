use Rattle.der.proofs.MeaningSteps.{order_end, order_differs, order_on}
use Rattle.der.proofs.not_above.Goals as goal

pub returns-then-x-y : goal.returns-then-x-y
returns-then-x-y c = search order_differs

pub loop-i-preserved : goal.loop-i-preserved
loop-i-preserved c = search order_on

pub returns : goal.returns
returns c = search order_end
