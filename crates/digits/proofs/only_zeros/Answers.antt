use Rattle.digits.proofs.NamedSteps.{zeros_none, zeros_last}
use Rattle.digits.proofs.only_zeros.Goals as goal

pub returns-then-h-from : goal.returns-then-h-from
returns-then-h-from c = search zeros_none

pub returns-then-not-zeros_from : goal.returns-then-not-zeros_from
returns-then-not-zeros_from c = search zeros_last
