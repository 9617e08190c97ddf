use Rattle.octets.proofs.Tests.{tests}
use Rattle.rows.specs.Row.{is_member}
use Rattle.rows.proofs.is_member.Goals as goal

pub returns-then-kind-eq-MEMBER : goal.returns-then-kind-eq-MEMBER
unfolding is_member
returns-then-kind-eq-MEMBER c = search tests

pub returns-else-kind-eq-MEMBER : goal.returns-else-kind-eq-MEMBER
unfolding is_member
returns-else-kind-eq-MEMBER c = search tests
