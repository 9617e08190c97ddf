use Rattle.rows.proofs.NumberSteps.{filled_none, filled_eight}
use Rattle.rows.proofs.filled_8.Goals as goal

pub returns-then-n-eq8 : goal.returns-then-n-eq8
returns-then-n-eq8 c = search filled_none

pub returns-else-n-eq8 : goal.returns-else-n-eq8
returns-else-n-eq8 c = search (filled_eight, c.shared_slice_known-1.given)
