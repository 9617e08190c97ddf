use Rattle.table.proofs.PassSteps.{gather_start, runs_bad, runs_again, runs_done}
use Rattle.table.proofs.runs_differ.Goals as goal

pub loop-j-init : goal.loop-j-init
loop-j-init c = search gather_start

pub returns-then-set-more-ne0 : goal.returns-then-set-more-ne0
returns-then-set-more-ne0 c = search runs_bad

pub loop-j-preserved : goal.loop-j-preserved
loop-j-preserved c = search runs_again

pub returns : goal.returns
returns c = search runs_done
