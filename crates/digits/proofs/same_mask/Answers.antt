use Rattle.digits.proofs.NamedSteps.{mask_told}
use Rattle.digits.proofs.same_mask.Goals as goal

pub returns-then-c-le65536 : goal.returns-then-c-le65536
returns-then-c-le65536 c = search mask_told
