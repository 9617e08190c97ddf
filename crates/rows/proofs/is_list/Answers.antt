use Rattle.octets.proofs.Tests.{tests}
use Rattle.rows.specs.Row.{is_list}
use Rattle.rows.proofs.is_list.Goals as goal

pub returns-then-kind-eq-SEQUENCE_OF : goal.returns-then-kind-eq-SEQUENCE_OF
unfolding is_list
returns-then-kind-eq-SEQUENCE_OF c = search tests

pub returns-else-kind-eq-SEQUENCE_OF : goal.returns-else-kind-eq-SEQUENCE_OF
unfolding is_list
returns-else-kind-eq-SEQUENCE_OF c = search tests
