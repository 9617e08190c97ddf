use Rattle.der.proofs.ContentsSteps.{ia5_is}
use Rattle.der.proofs.legal_ia5.Goals as goal

pub returns : goal.returns
returns c = search ia5_is
