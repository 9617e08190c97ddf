use Rattle.table.proofs.PassSteps.{default-short, second-default, second_set}
use Rattle.table.proofs.member_second.Goals as goal

pub plain-requires : goal.plain-requires
plain-requires c = search default-short

pub returns-then-member_presence-eq2 : goal.returns-then-member_presence-eq2
returns-then-member_presence-eq2 c = search second-default

pub returns : goal.returns
returns c = search second_set
