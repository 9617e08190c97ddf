use Rattle.walk.proofs.VisitSteps.{test-over, test-accepted, test-other}
use Rattle.walk.proofs.test_one.Goals as goal

pub returns-then-budget-n : goal.returns-then-budget-n
returns-then-budget-n c = search test-over

pub returns-then-accepted : goal.returns-then-accepted
returns-then-accepted c = search test-accepted

pub returns : goal.returns
returns c = search test-other
