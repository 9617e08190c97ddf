use Rattle.rules.proofs.Steps.{rdn-is}
use Rattle.rules.proofs.is_rdn.Goals as goal

pub returns-then-is_quoted : goal.returns-then-is_quoted
returns-then-is_quoted c = search rdn-is
