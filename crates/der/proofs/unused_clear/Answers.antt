use Rattle.der.proofs.ContentsSteps.{clear_divisor, clear_is}
use Rattle.der.proofs.unused_clear.Goals as goal

pub nonzero_rem-result : goal.nonzero_rem-result
nonzero_rem-result c = search clear_divisor

pub returns : goal.returns
returns c = search clear_is
