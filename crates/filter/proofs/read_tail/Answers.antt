use Rattle.filter.proofs.Steps.{tail_another, tail_other, tail_closed}
use Rattle.filter.proofs.read_tail.Goals as goal

pub returns-in-Some : goal.returns-in-Some
returns-in-Some c = search tail_another

pub returns-then-octet-ne125 : goal.returns-then-octet-ne125
returns-then-octet-ne125 c = search tail_other

pub returns : goal.returns
returns c = search tail_closed
