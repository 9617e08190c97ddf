use Rattle.der.proofs.TimeSteps.{power-fits, scaled_fits, billionths-is}
use Rattle.der.proofs.billionths.Goals as goal

pub pow-requires : goal.pow-requires
pow-requires c = search power-fits

pub overflow_mul-result : goal.overflow_mul-result
overflow_mul-result c = record { fits = rw c.pow.ensures (search scaled_fits) }

pub returns : goal.returns
returns c = rw c.pow.ensures (search billionths-is)
