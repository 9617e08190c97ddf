use Rattle.rows.proofs.Steps.{filled-here, filled-long}
use Rattle.rows.proofs.default_filled.Goals as goal

pub returns-else-n-le8 : goal.returns-else-n-le8
returns-else-n-le8 c = search filled-long

pub returns-then-n-le8 : goal.returns-then-n-le8
returns-then-n-le8 c = search filled-here
