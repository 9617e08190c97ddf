use Rattle.plan.proofs.BitsSteps.{at_unsuited, at_names, at-digits}
use Rattle.plan.proofs.bits_test_at.Goals as goal

pub returns-then-not-suits : goal.returns-then-not-suits
returns-then-not-suits c = search at_unsuited

pub returns-then-kind-eq-NAMED_BIT_STRING : goal.returns-then-kind-eq-NAMED_BIT_STRING
returns-then-kind-eq-NAMED_BIT_STRING c = search at_names

pub returns : goal.returns
returns c = search at-digits
