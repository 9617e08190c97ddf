use Rattle.walk.proofs.WalkSteps.{tally_is, tally_accepted, tally_over}
use Rattle.walk.proofs.tally.Goals as goal

pub returns-in-Going : goal.returns-in-Going
returns-in-Going c = search tally_is

pub returns-in-Accepted : goal.returns-in-Accepted
returns-in-Accepted c = search tally_accepted

pub returns-in-Over : goal.returns-in-Over
returns-in-Over c = search tally_over
