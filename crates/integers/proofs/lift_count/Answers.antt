use Rattle.integers.proofs.Steps.{count-is}
use Rattle.integers.proofs.lift_count.Goals as goal

pub returns : goal.returns
returns c = search count-is
