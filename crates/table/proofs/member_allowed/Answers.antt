use Rattle.table.proofs.PassSteps.{allowed_not, allowed-default, allowed-none}
use Rattle.table.proofs.member_allowed.Goals as goal

pub returns-then-implicit_choice : goal.returns-then-implicit_choice
returns-then-implicit_choice c = search allowed_not

pub returns-then-member_presence-eq2 : goal.returns-then-member_presence-eq2
returns-then-member_presence-eq2 c = search allowed-default

pub returns : goal.returns
returns c = search allowed-none
