use Rattle.value.proofs.LeafSteps.{inside-fits, inside-ends}
use Rattle.value.proofs.CheckSteps.{leaf_misfit, leaf_basic}
use borrow.Author.Rules.{rules}
use Rattle.value.proofs.check_leaf.Goals as goal

pub returns-in_default : goal.returns-in_default
returns-in_default c = search leaf_misfit

pub overflow_add-start : goal.overflow_add-start
overflow_add-start c = record { fits = search inside-fits }

pub check_element-requires : goal.check_element-requires
check_element-requires c = record { ordered = search rules; inside = search inside-ends }

pub returns : goal.returns
returns c = search leaf_basic
