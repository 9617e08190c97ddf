use Rattle.digits.proofs.NamedSteps.{digit_counts, digit_zero, digits-none}
use Rattle.digits.proofs.significant.Goals as goal

pub returns-then-h-last-ne48 : goal.returns-then-h-last-ne48
returns-then-h-last-ne48 c = search digit_counts

pub loop-last-preserved : goal.loop-last-preserved
loop-last-preserved c = search digit_zero

pub returns : goal.returns
returns c = search digits-none
