use Rattle.value.proofs.ElementSteps.{element-here, leaf_given}
use borrow.Author.Rules.{rules}
use Rattle.value.proofs.check_leaves.Goals as goal

pub kind-element_kind-requires : goal.kind-element_kind-requires
kind-element_kind-requires c = record { worded = search rules; here = search element-here }

pub check_alike-requires : goal.check_alike-requires
check_alike-requires c = record { worded = search rules; here = search rules; list = search rules; kinded = search leaf_given; basic = search rules; ordered = search rules; inside = search rules }
