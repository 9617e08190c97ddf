use Rattle.digits.proofs.NamedSteps.{zeros_end, zeros_on, zeros_other}
use Rattle.digits.proofs.zeros_from.Goals as goal

pub returns-then-drawn-ne0 : goal.returns-then-drawn-ne0
returns-then-drawn-ne0 c = search zeros_other

pub loop-drawn-preserved : goal.loop-drawn-preserved
loop-drawn-preserved c = search zeros_on

pub returns : goal.returns
returns c = search zeros_end
