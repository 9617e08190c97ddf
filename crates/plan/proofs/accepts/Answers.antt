use Rattle.plan.proofs.PassSteps.{accepts-less, accepts-plain, accepts-same, accepts-whole}
use Rattle.plan.proofs.accepts.Goals as goal

pub returns-then-comparison-lt-SAME_INTEGER : goal.returns-then-comparison-lt-SAME_INTEGER
returns-then-comparison-lt-SAME_INTEGER c = search accepts-plain

pub returns-then-comparison-lt-LESS_INTEGER : goal.returns-then-comparison-lt-LESS_INTEGER
returns-then-comparison-lt-LESS_INTEGER c = search accepts-same

pub returns-then-comparison-lt-ARCS : goal.returns-then-comparison-lt-ARCS
returns-then-comparison-lt-ARCS c = search accepts-less

pub returns : goal.returns
returns c = search accepts-whole
