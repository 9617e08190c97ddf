use Rattle.table.proofs.PassSteps.{mandatory-is}
use Rattle.table.proofs.is_mandatory.Goals as goal

pub returns : goal.returns
returns c = search mandatory-is
