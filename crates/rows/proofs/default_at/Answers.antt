use Rattle.rows.proofs.Steps.{default-is}
use Rattle.rows.proofs.default_at.Goals as goal

pub returns : goal.returns
returns c = search default-is
