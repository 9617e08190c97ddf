use Rattle.octets.proofs.Steps.{part_none, part-most, part-exact}
use Rattle.octets.proofs.part.Goals as goal

pub returns-then-s-at : goal.returns-then-s-at
returns-then-s-at c = search part_none

pub returns-then-s-at-2 : goal.returns-then-s-at-2
returns-then-s-at-2 c = search part-most

pub returns : goal.returns
returns c = search part-exact
