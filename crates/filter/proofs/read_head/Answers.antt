use Rattle.filter.proofs.Steps.{head_item, head_and, head-or, head_not, head_none}
use Rattle.filter.proofs.read_head.Goals as goal

pub returns-in-Some : goal.returns-in-Some
returns-in-Some c = search head_item

pub returns-in-Some-word_at : goal.returns-in-Some-word_at
returns-in-Some-word_at c = search head_and

pub returns-in-Some-word_at-2 : goal.returns-in-Some-word_at-2
returns-in-Some-word_at-2 c = search head-or

pub returns-in-Some-word_at-3 : goal.returns-in-Some-word_at-3
returns-in-Some-word_at-3 c = search head_not

pub returns : goal.returns
returns c = search head_none
