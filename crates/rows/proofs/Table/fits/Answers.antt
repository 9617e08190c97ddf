use Rattle.rows.specs.Limits.{table_fits}
use borrow.Author.Rules.{rules}
use Rattle.rows.proofs.Table.fits.Goals as goal

pub returns : goal.returns
unfolding table_fits
returns c = search rules
