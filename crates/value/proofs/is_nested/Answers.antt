use Rattle.value.proofs.NestedSteps.{nested-other, nested-choice}
use Rattle.value.proofs.is_nested.Goals as goal

pub returns-else-kind_of_type-eq-CHOICE : goal.returns-else-kind_of_type-eq-CHOICE
returns-else-kind_of_type-eq-CHOICE c = search nested-other

pub returns-then-kind_of_type-eq-CHOICE : goal.returns-then-kind_of_type-eq-CHOICE
returns-then-kind_of_type-eq-CHOICE c = search nested-choice
