use Rattle.reference.proofs.IdSteps.{number_far, number_is}
use Rattle.reference.proofs.number_of.Goals as goal

pub returns-in_default : goal.returns-in_default
returns-in_default c = search number_far

pub returns : goal.returns
returns c = search number_is
