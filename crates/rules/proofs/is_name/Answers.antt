use Rattle.rules.proofs.Steps.{name-is}
use Rattle.rules.proofs.is_name.Goals as goal

pub returns-then-is_quoted : goal.returns-then-is_quoted
returns-then-is_quoted c = search name-is
