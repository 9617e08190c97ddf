use Rattle.plan.proofs.Identifying.{name-plans, position-plans, last-plans, count-plans, all-plans, none-plans}
use Rattle.plan.proofs.plan_id.Goals as goal

pub returns-in-Name : goal.returns-in-Name
returns-in-Name c = search name-plans

pub returns-in-Position : goal.returns-in-Position
returns-in-Position c = search position-plans

pub returns-in-FromEnd : goal.returns-in-FromEnd
returns-in-FromEnd c = search last-plans

pub returns-in-Count : goal.returns-in-Count
returns-in-Count c = search count-plans

pub returns-in-All : goal.returns-in-All
returns-in-All c = search all-plans

pub returns-in-End : goal.returns-in-End
returns-in-End c = search none-plans
