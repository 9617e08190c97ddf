use Rattle.reference.proofs.IdSteps.{number-position, number-other}
use Rattle.reference.proofs.read_number.Goals as goal

pub returns-then-is_position : goal.returns-then-is_position
returns-then-is_position c = search number-position

pub returns : goal.returns
returns c = search number-other
