use Rattle.names.proofs.NameSteps.{alone-none, alone-is}
use Rattle.names.proofs.is_rdn.Goals as goal

pub returns-in_default : goal.returns-in_default
returns-in_default c = search alone-none

pub returns : goal.returns
returns c = search alone-is
