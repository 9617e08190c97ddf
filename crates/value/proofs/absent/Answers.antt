use Rattle.value.proofs.LeafSteps.{absent_bad, absent_is}
use Rattle.value.proofs.absent.Goals as goal

pub returns-then-presence-eq0 : goal.returns-then-presence-eq0
returns-then-presence-eq0 c = search absent_bad

pub returns : goal.returns
returns c = search absent_is
