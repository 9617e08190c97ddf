use Rattle.rows.proofs.Steps.{stands_same, stands_not, stands-long}
use Rattle.rows.proofs.stands_as.Goals as goal

pub returns-then-kind-follower : goal.returns-then-kind-follower
returns-then-kind-follower c = search stands_same

pub returns-else-kind-eq-LONG_MEMBER : goal.returns-else-kind-eq-LONG_MEMBER
returns-else-kind-eq-LONG_MEMBER c = search stands_not

pub returns-then-kind-eq-LONG_MEMBER : goal.returns-then-kind-eq-LONG_MEMBER
returns-then-kind-eq-LONG_MEMBER c = search stands-long
