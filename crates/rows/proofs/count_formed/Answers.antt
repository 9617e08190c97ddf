use Rattle.rows.proofs.Steps.{count-choice, count-named, count-other, count-sequence}
use Rattle.rows.proofs.count_formed.Goals as goal

pub returns-then-kind-eq-SEQUENCE : goal.returns-then-kind-eq-SEQUENCE
returns-then-kind-eq-SEQUENCE c = search count-sequence

pub returns-then-kind-eq-CHOICE : goal.returns-then-kind-eq-CHOICE
returns-then-kind-eq-CHOICE c = search count-choice

pub returns-then-kind-eq-NAMED_BIT_STRING : goal.returns-then-kind-eq-NAMED_BIT_STRING
returns-then-kind-eq-NAMED_BIT_STRING c = search count-named

pub returns : goal.returns
returns c = search count-other
