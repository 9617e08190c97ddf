use Rattle.der.proofs.MeaningSteps.{bit_is}
use Rattle.der.proofs.bit_of.Goals as goal

pub returns : goal.returns
returns c = search bit_is
