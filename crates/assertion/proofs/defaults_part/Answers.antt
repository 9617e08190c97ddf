use Rattle.assertion.proofs.Steps.{defaults_missing, defaults-is}
use Rattle.assertion.proofs.defaults_part.Goals as goal

pub returns-in_default : goal.returns-in_default
returns-in_default c = search defaults_missing

pub returns : goal.returns
returns c = search defaults-is
