use Rattle.der.proofs.MeaningSteps.{own_is}
use Rattle.der.proofs.own_octet.Goals as goal

pub returns : goal.returns
returns c = search own_is
