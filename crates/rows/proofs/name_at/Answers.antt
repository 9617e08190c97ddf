use Rattle.rows.proofs.Steps.{name-is}
use Rattle.rows.proofs.name_at.Goals as goal

pub returns : goal.returns
returns c = search name-is
