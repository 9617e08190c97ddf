use Rattle.assertion.proofs.Steps.{component_missing, component-is}
use Rattle.assertion.proofs.component_part.Goals as goal

pub returns-in_default : goal.returns-in_default
returns-in_default c = search component_missing

pub returns : goal.returns
returns c = search component-is
