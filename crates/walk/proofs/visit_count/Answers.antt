use Rattle.walk.proofs.VisitSteps.{visit_count_is}
use Rattle.walk.proofs.visit_count.Goals as goal

pub returns : goal.returns
returns c = search visit_count_is
