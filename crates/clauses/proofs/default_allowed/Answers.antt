use Rattle.clauses.proofs.Steps.{allowed-is, allowed_not}
use Rattle.clauses.proofs.default_allowed.Goals as goal

pub returns-else-within : goal.returns-else-within
returns-else-within c = search allowed_not

pub returns-then-within : goal.returns-then-within
returns-then-within c = search allowed-is
