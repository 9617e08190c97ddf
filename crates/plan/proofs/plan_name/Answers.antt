use Rattle.plan.proofs.PlanSteps.{find_one, name-none, name_some}
use borrow.Author.Rules.{rules}
use Rattle.plan.proofs.plan_name.Goals as goal

pub returns-then-n-j : goal.returns-then-n-j
returns-then-n-j c = search name-none

pub plan_member-requires : goal.plan_member-requires
plan_member-requires c = record { worded = search rules; here = search rules; one = search find_one }

pub returns : goal.returns
returns c = search name_some
