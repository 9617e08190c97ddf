use Rattle.rows.proofs.NumberSteps.{filled-later, filled_not, filled-both}
use Rattle.rows.proofs.filled_16.Goals as goal

pub returns-then-n-ge8 : goal.returns-then-n-ge8
returns-then-n-ge8 c = search (filled-later 8 8)

pub returns-then-not-filled_8 : goal.returns-then-not-filled_8
returns-then-not-filled_8 c = search (filled_not 8 8)

pub returns : goal.returns
returns c = search (filled-both 8 8)
