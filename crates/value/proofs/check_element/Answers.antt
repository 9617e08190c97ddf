use Rattle.value.proofs.LeafSteps.{up_checked, up_not}
use Rattle.value.proofs.check_element.Goals as goal

pub returns-then-legal_element : goal.returns-then-legal_element
returns-then-legal_element c = search up_checked

pub returns : goal.returns
returns c = search up_not
