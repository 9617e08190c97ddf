use Rattle.strings.proofs.Comparing.{sides_start, sides_on, sides_less}
use Rattle.strings.proofs.same_from.Goals as goal

pub loop-same-init : goal.loop-same-init
loop-same-init c = search sides_start

pub loop-same-smaller : goal.loop-same-smaller
loop-same-smaller c = search sides_less

pub loop-same-preserved : goal.loop-same-preserved
loop-same-preserved c = search sides_on
