use Rattle.octets.proofs.Steps.{decimal-start, decimal-more, decimal-done}
use Rattle.octets.proofs.decimal.Goals as goal

pub loop-b-init : goal.loop-b-init
loop-b-init c = search decimal-start

pub loop-b-preserved : goal.loop-b-preserved
loop-b-preserved c = search decimal-more

pub returns : goal.returns
returns c = search decimal-done
