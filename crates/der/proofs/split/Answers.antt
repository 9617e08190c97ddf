use Rattle.der.proofs.Steps.{split-is}
use Rattle.der.proofs.split.Goals as goal

pub returns : goal.returns
returns c = split-is _
