use Rattle.der.proofs.MeaningSteps.{wrapper_is}
use Rattle.der.proofs.wrapper_octet.Goals as goal

pub returns : goal.returns
returns c = search wrapper_is
