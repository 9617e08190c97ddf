use Rattle.quote.proofs.Steps.{Counts}
use Rattle.quote.proofs.fits.Given as goal

abbrev pub invariant-loop-octet : goal.invariant-loop-octet
invariant-loop-octet l = Counts l.text l.octet-index l.more
