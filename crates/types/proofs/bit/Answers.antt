use Rattle.types.proofs.TagSteps.{one_bit}
use Rattle.types.proofs.bit.Goals as goal

pub returns : goal.returns
returns c = search one_bit
