use Rattle.rules.proofs.NameSteps.{name-length}
use Rattle.rules.proofs.same_name.Goals as goal

pub returns-else-a-b : goal.returns-else-a-b
returns-else-a-b c = search name-length
