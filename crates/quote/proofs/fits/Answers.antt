use Rattle.quote.proofs.Steps.{fits-small, fits_twice, fits_short, counts-start, counts_more, counts_fit}
use Rattle.quote.proofs.fits.Goals as goal

pub returns-then-size-lt2 : goal.returns-then-size-lt2
returns-then-size-lt2 c = search fits-small

pub returns-then-text-free : goal.returns-then-text-free
returns-then-text-free c = search fits_twice

pub returns-then-free-text : goal.returns-then-free-text
returns-then-free-text c = search fits_short

pub loop-octet-init : goal.loop-octet-init
loop-octet-init c = search counts-start

pub loop-octet-preserved : goal.loop-octet-preserved
loop-octet-preserved c = search counts_more

pub returns : goal.returns
returns c = search counts_fit
