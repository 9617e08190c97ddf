use Rattle.table.proofs.PassSteps.{later-before, later-past, later-is}
use Rattle.table.proofs.later_type.Goals as goal

pub returns-then-j-i : goal.returns-then-j-i
returns-then-j-i c = search later-before

pub returns-then-n-j : goal.returns-then-n-j
returns-then-n-j c = search later-past

pub returns : goal.returns
returns c = search later-is
