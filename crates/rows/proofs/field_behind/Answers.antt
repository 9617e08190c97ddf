use Rattle.rows.proofs.Steps.{field_behind}
use Rattle.rows.proofs.field_behind.Goals as goal

pub returns : goal.returns
returns c = search field_behind
