use Rattle.plan.proofs.PlanSteps.{list-none, list_some}
use Rattle.plan.proofs.plan_list.Goals as goal

pub returns-then-not-is_list : goal.returns-then-not-is_list
returns-then-not-is_list c = search list-none

pub returns : goal.returns
returns c = search list_some
