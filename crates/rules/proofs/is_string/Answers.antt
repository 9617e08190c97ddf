use Rattle.rules.proofs.Steps.{string-is}
use Rattle.rules.proofs.is_string.Goals as goal

pub returns : goal.returns
returns c = search string-is
