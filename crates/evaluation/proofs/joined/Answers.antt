use Rattle.evaluation.proofs.FilterSteps.{joined-over, joined-stops, joined-on}
use Rattle.evaluation.proofs.joined.Goals as goal

pub returns-then-not-goes_on : goal.returns-then-not-goes_on
returns-then-not-goes_on c = search joined-over

pub returns-then-stops : goal.returns-then-stops
returns-then-stops c = search joined-stops

pub returns : goal.returns
returns c = search joined-on
