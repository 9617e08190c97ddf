use Rattle.std.proofs.Common.{rules}
use Rattle.filter.specs.Parse.{filter_fits}
use Rattle.octets.proofs.Tests.{tests}
use Rattle.filter.proofs.Filter.fits.Goals as goal

pub returns : goal.returns
unfolding filter_fits
returns c = search (rules, tests)
