use Rattle.dotted.proofs.StoredSteps.{fit-bad, fit-end, fit-more, fit_none, fit-start}
use Rattle.dotted.proofs.fits_stored.Goals as goal

pub loop-left-init : goal.loop-left-init
loop-left-init c = search fit-start

pub returns-in_default : goal.returns-in_default
returns-in_default c = search fit-bad

pub returns-in_default-next : goal.returns-in_default-next
returns-in_default-next c = search fit-end

pub loop-left-preserved : goal.loop-left-preserved
loop-left-preserved c = search fit-more

pub returns : goal.returns
returns c = search fit_none
