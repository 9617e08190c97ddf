use Rattle.rows.proofs.Steps.{number_is}
use Rattle.rows.proofs.number_after.Goals as goal

pub returns : goal.returns
returns c = search number_is
