use Rattle.der.proofs.MeaningSteps.{bit_here, past-bits}
use Rattle.der.proofs.bit_at.Goals as goal

pub returns-then-bit_count-i : goal.returns-then-bit_count-i
returns-then-bit_count-i c = search past-bits

pub returns : goal.returns
returns c = search bit_here
