use Rattle.table.proofs.PassSteps.{gathered_none, gathered_more}
use Rattle.table.proofs.gathered.Goals as goal

pub returns-then-is_mandatory : goal.returns-then-is_mandatory
returns-then-is_mandatory c = search gathered_none

pub returns : goal.returns
returns c = search gathered_more
