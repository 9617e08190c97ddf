use Rattle.value.proofs.LeafSteps.{order_any, order_is}
use Rattle.value.proofs.in_order.Goals as goal

pub returns-then-kind-eq-SEQUENCE_OF : goal.returns-then-kind-eq-SEQUENCE_OF
returns-then-kind-eq-SEQUENCE_OF c = search order_any

pub returns-else-kind-eq-SEQUENCE_OF : goal.returns-else-kind-eq-SEQUENCE_OF
returns-else-kind-eq-SEQUENCE_OF c = search order_is
