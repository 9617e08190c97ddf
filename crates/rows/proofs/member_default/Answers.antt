use Rattle.rows.proofs.Steps.{default-whole}
use Rattle.rows.proofs.member_default.Goals as goal

pub returns : goal.returns
returns c = search default-whole
