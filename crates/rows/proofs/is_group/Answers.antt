use Rattle.octets.proofs.Tests.{tests}
use Rattle.rows.specs.Row.{is_group}
use Rattle.rows.proofs.is_group.Goals as goal

pub returns-then-kind-eq-SEQUENCE : goal.returns-then-kind-eq-SEQUENCE
unfolding is_group
returns-then-kind-eq-SEQUENCE c = search tests

pub returns-else-kind-eq-SEQUENCE : goal.returns-else-kind-eq-SEQUENCE
unfolding is_group
returns-else-kind-eq-SEQUENCE c = search tests
