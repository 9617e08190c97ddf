use Rattle.rows.proofs.NumberSteps.{eight_is}
use Rattle.rows.proofs.eight.Goals as goal

pub returns : goal.returns
returns c = eight_is _ _ _ c.requires c.from_le_bytes.ensures
