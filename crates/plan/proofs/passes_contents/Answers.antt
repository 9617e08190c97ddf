use Rattle.plan.proofs.PassSteps.{contents_pass, contents-tested}
use Rattle.plan.proofs.passes_contents.Goals as goal

pub returns-then-task-lt2 : goal.returns-then-task-lt2
returns-then-task-lt2 c = search contents_pass

pub returns-else-task-lt2 : goal.returns-else-task-lt2
returns-else-task-lt2 c = search contents-tested
