use Rattle.der.proofs.ContentsSteps.{skip-none, skip-more}
use Rattle.der.proofs.skip_printable.Goals as goal

pub loop-i-init : goal.loop-i-init
loop-i-init c = search skip-none

pub loop-i-preserved : goal.loop-i-preserved
loop-i-preserved c = search skip-more
