use Rattle.rows.proofs.Steps.{element-named}
use Rattle.rows.proofs.element_at.Goals as goal

pub returns : goal.returns
returns c = search element-named
