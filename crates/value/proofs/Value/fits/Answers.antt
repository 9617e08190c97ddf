use Rattle.value.specs.Check.{value_fits}
use borrow.Author.Rules.{rules}
use Rattle.value.proofs.Value.fits.Goals as goal

pub returns : goal.returns
unfolding value_fits
returns c = search rules
