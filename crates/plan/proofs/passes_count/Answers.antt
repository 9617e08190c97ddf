use Rattle.plan.proofs.PassSteps.{count-passes, count-tested}
use Rattle.plan.proofs.passes_count.Goals as goal

pub returns-then-task-lt2 : goal.returns-then-task-lt2
returns-then-task-lt2 c = search count-passes

pub returns-else-task-lt2 : goal.returns-else-task-lt2
returns-else-task-lt2 c = search count-tested
