use Rattle.integers.proofs.Steps.{bound_minus, bound_plus}
use Rattle.integers.proofs.bound_of.Goals as goal

pub returns-then-a : goal.returns-then-a
returns-then-a c = search bound_minus

pub returns-else-a : goal.returns-else-a
returns-else-a c = search bound_plus
