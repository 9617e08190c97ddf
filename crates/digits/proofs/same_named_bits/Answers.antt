use Rattle.digits.proofs.NamedSteps.{named_told}
use Rattle.digits.proofs.same_named_bits.Goals as goal

pub returns-then-c-le65536 : goal.returns-then-c-le65536
returns-then-c-le65536 c = search named_told
