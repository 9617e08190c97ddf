use Rattle.plan.proofs.TaskLaws.{counting-is, two-long}
use Rattle.plan.proofs.plan_tally.Goals as goal

pub returns : goal.returns
returns c = search counting-is
