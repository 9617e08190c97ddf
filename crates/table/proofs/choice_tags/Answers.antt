use Rattle.table.proofs.PassSteps.{gather_start, join_start, choice-bad, choice_again, join_again, choice-done}
use Rattle.table.proofs.choice_tags.Goals as goal

pub loop-j-init : goal.loop-j-init
loop-j-init c = (search gather_start, search join_start)

pub returns-then-set-more-ne0 : goal.returns-then-set-more-ne0
returns-then-set-more-ne0 c = search choice-bad

pub loop-j-preserved : goal.loop-j-preserved
loop-j-preserved c = (search choice_again, search join_again)

pub returns : goal.returns
returns c = search choice-done
