use Rattle.value.proofs.TagSteps.{opens_set, opens-octet}
use Rattle.value.proofs.opens.Goals as goal

pub returns-then-first-eq0 : goal.returns-then-first-eq0
returns-then-first-eq0 c = search opens_set

pub returns : goal.returns
returns c = search opens-octet
