use Rattle.rows.proofs.NumberSteps.{eight_same}
use Rattle.rows.proofs.same_eight.Goals as goal

pub returns : goal.returns
returns c = search (eight_same, c.shared_slice_known-1.given)
