use Rattle.gser.proofs.Steps.{skipping_ends, skipping_found, skipping_on}
use Rattle.gser.proofs.skip_spaces.Goals as goal

pub returns-then-s-i-ne32-clause-rest : goal.returns-then-s-i-ne32-clause-rest
returns-then-s-i-ne32-clause-rest c = search skipping_found

pub loop-i-preserved : goal.loop-i-preserved
loop-i-preserved c = search skipping_on

pub returns-clause-rest : goal.returns-clause-rest
returns-clause-rest c = search skipping_ends
