use Rattle.evaluation.proofs.ItemSteps.{ended-going, ended-accepted}
use Rattle.evaluation.proofs.ended.Goals as goal

pub returns-in-Going : goal.returns-in-Going
returns-in-Going c = rw c.of.ensures (search ended-going)

pub returns-in-Accepted : goal.returns-in-Accepted
returns-in-Accepted c = rw c.of-in-Accepted.ensures (search ended-accepted)
