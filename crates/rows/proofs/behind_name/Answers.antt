use Rattle.rows.proofs.Steps.{behind-is}
use Rattle.rows.proofs.behind_name.Goals as goal

pub returns : goal.returns
returns c = search behind-is
