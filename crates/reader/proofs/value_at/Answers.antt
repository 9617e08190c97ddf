use Rattle.reader.proofs.Steps.{value-is}
use Rattle.reader.proofs.value_at.Goals as goal

pub returns : goal.returns
returns c = search value-is
