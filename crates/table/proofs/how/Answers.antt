use Rattle.table.proofs.Steps.{how_wrapped, how-plain, how-other}
use Rattle.table.proofs.how.Goals as goal

pub returns-then-mode-eq1 : goal.returns-then-mode-eq1
returns-then-mode-eq1 c = search how_wrapped

pub returns-then-is_basic : goal.returns-then-is_basic
returns-then-is_basic c = search how-plain

pub returns : goal.returns
returns c = search how-other
