use Rattle.reference.proofs.IdSteps.{step-name, step-position, step-from_end, step_count, step-all, step-bad}
use Rattle.reference.proofs.step_of.Goals as goal

pub returns-in-Name : goal.returns-in-Name
returns-in-Name c = search step-name

pub returns-in-Position : goal.returns-in-Position
returns-in-Position c = search step-position

pub returns-in-FromEnd : goal.returns-in-FromEnd
returns-in-FromEnd c = search step-from_end

pub returns-in-Count : goal.returns-in-Count
returns-in-Count c = search step_count

pub returns-in-All : goal.returns-in-All
returns-in-All c = search step-all

pub returns-in-Bad : goal.returns-in-Bad
returns-in-Bad c = search step-bad
