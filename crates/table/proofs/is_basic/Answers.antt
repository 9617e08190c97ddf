use Rattle.table.specs.Inner.Words.{is_basic}
use Rattle.octets.proofs.Tests.{tests}
use Rattle.table.proofs.Steps.{basic_name}
use Rattle.table.proofs.is_basic.Goals as goal

pub returns-then-kind-le-GENERALIZED_TIME : goal.returns-then-kind-le-GENERALIZED_TIME
unfolding is_basic
returns-then-kind-le-GENERALIZED_TIME c = search tests

pub returns-then-kind-eq-NAMED_BIT_STRING : goal.returns-then-kind-eq-NAMED_BIT_STRING
unfolding is_basic
returns-then-kind-eq-NAMED_BIT_STRING c = search tests

pub returns : goal.returns
unfolding is_basic
returns c = search basic_name
