use Rattle.rows.proofs.NameSteps.{eights_start, eights-bad, eights_more, eights_done}
use Rattle.rows.proofs.same_24.Goals as goal

pub loop-k-init : goal.loop-k-init
loop-k-init c = search eights_start

pub returns-then-not-same_eight : goal.returns-then-not-same_eight
returns-then-not-same_eight c = search eights-bad

pub loop-k-preserved : goal.loop-k-preserved
loop-k-preserved c = search eights_more

pub returns : goal.returns
returns c = search eights_done
