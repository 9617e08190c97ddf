use Rattle.plan.proofs.BitsSteps.{digits-none, digits_some}
use Rattle.plan.proofs.digits_test.Goals as goal

pub returns-then-not-is_bits : goal.returns-then-not-is_bits
returns-then-not-is_bits c = search digits-none

pub returns : goal.returns
returns c = search digits_some
