use Rattle.escape.proofs.Steps.{fits_thrice, fits-done, fits_not, fits_more}
use Rattle.escape.proofs.fits.Goals as goal

pub returns-then-text-size : goal.returns-then-text-size
returns-then-text-size c = search fits_thrice

pub returns-then-left-w : goal.returns-then-left-w
returns-then-left-w c = search fits_not

pub loop-i-preserved : goal.loop-i-preserved
loop-i-preserved c = search fits_more

pub returns : goal.returns
returns c = search fits-done
