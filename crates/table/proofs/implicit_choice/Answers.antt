use Rattle.table.proofs.PassSteps.{implicit-is, implicit_not}
use Rattle.table.proofs.implicit_choice.Goals as goal

pub returns-then-member_mode-eq2 : goal.returns-then-member_mode-eq2
returns-then-member_mode-eq2 c = search implicit-is

pub returns-else-member_mode-eq2 : goal.returns-else-member_mode-eq2
returns-else-member_mode-eq2 c = search implicit_not
