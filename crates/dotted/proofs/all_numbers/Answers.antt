use Rattle.dotted.proofs.ArcSteps.{numbers-bad, numbers-done, numbers_longer, numbers_next, numbers-start}
use Rattle.dotted.proofs.all_numbers.Goals as goal
use Rattle.dotted.proofs.all_numbers.Goals.{then-b-eq46+else-not-is_formed, else-b-eq46}

pub loop-i-init : goal.loop-i-init
loop-i-init c = search numbers-start

pub returns-then-not-is_formed : goal.returns-then-not-is_formed
returns-then-not-is_formed c = search numbers-bad

pub loop-i-preserved : goal.loop-i-preserved
loop-i-preserved c = elim c.if-b-eq46.branch [ then-b-eq46+else-not-is_formed w ↦ search numbers_next | else-b-eq46 w ↦ search numbers_longer ]

pub returns : goal.returns
returns c = search numbers-done
