use Rattle.rules.proofs.NameSteps.{called-number, called-word}
use Rattle.rules.proofs.is_called.Goals as goal

pub returns-then-dotted : goal.returns-then-dotted
returns-then-dotted c = search called-number

pub returns-else-dotted : goal.returns-else-dotted
returns-else-dotted c = search called-word
