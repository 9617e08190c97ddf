use Rattle.rows.proofs.Steps.{fields_are}
use Rattle.rows.proofs.fields.Goals as goal

pub returns : goal.returns
returns c = search fields_are
