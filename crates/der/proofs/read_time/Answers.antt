use Rattle.der.proofs.TimeSteps.{says}
use Rattle.der.proofs.read_time.Goals as goal

pub returns : goal.returns
returns c = search says
