use Rattle.der.proofs.MeaningSteps.{implicit-is}
use Rattle.der.proofs.implicit_octet.Goals as goal

pub returns : goal.returns
returns c = search implicit-is
