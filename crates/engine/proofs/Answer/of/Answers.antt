use Rattle.engine.proofs.AskSteps.{settled_true, settled_false, settled-undefined}
use Rattle.engine.proofs.Answer.of.Goals as goal

pub returns-in-True : goal.returns-in-True
returns-in-True c = search settled_true

pub returns-in-False : goal.returns-in-False
returns-in-False c = search settled_false

pub returns-in-Undefined : goal.returns-in-Undefined
returns-in-Undefined c = search settled-undefined
