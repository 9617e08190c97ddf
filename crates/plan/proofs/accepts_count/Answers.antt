use Rattle.plan.proofs.PassSteps.{count_less, count-other, count-plain, count_same}
use Rattle.plan.proofs.accepts_count.Goals as goal

pub returns-then-comparison-lt-SAME_INTEGER : goal.returns-then-comparison-lt-SAME_INTEGER
returns-then-comparison-lt-SAME_INTEGER c = search count-plain

pub returns-then-comparison-lt-LESS_INTEGER : goal.returns-then-comparison-lt-LESS_INTEGER
returns-then-comparison-lt-LESS_INTEGER c = search count_same

pub returns-then-comparison-lt-ARCS : goal.returns-then-comparison-lt-ARCS
returns-then-comparison-lt-ARCS c = search count_less

pub returns : goal.returns
returns c = search count-other
