use Rattle.walk.proofs.VisitSteps.{count-more, count_full}
use Rattle.walk.proofs.count_one.Goals as goal

pub returns-then-n-limit : goal.returns-then-n-limit
returns-then-n-limit c = search count-more

pub returns : goal.returns
returns c = search count_full
