use Rattle.engine.proofs.AskSteps.{refuse_good, refuse_malformed}
use Rattle.engine.proofs.refuse_filter.Goals as goal

pub returns-in_default : goal.returns-in_default
returns-in_default c = search refuse_malformed

pub returns : goal.returns
returns c = search refuse_good
