use Rattle.rows.proofs.Steps.{field_is}
use Rattle.rows.proofs.field.Goals as goal

pub returns : goal.returns
returns c = search field_is
