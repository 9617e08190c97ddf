use Rattle.octets.proofs.Steps.{highest-more, highest-done}
use Rattle.octets.proofs.highest.Goals as goal

pub loop-b-preserved : goal.loop-b-preserved
loop-b-preserved c = search highest-more

pub returns : goal.returns
returns c = search highest-done
