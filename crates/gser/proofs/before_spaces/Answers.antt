use Rattle.gser.proofs.Steps.{ending-found, ending-none, ending-on}
use Rattle.gser.proofs.before_spaces.Goals as goal

pub returns-then-s-last-ne32 : goal.returns-then-s-last-ne32
returns-then-s-last-ne32 c = search ending-found

pub loop-last-preserved : goal.loop-last-preserved
loop-last-preserved c = search ending-on

pub returns : goal.returns
returns c = search ending-none
