use Rattle.value.proofs.LeafSteps.{up_checked, up_not}
use Rattle.value.proofs.check_basic.Goals as goal

pub returns-then-legal : goal.returns-then-legal
returns-then-legal c = search up_checked

pub returns : goal.returns
returns c = search up_not
