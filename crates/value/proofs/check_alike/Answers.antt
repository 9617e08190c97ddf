use mathlib.Core.Path.{◌∙◌}
use Rattle.value.proofs.ElementSteps.{element-here, element-typed, element_basic, element_kind, elements_bad, element-after, element-ends, element-less}
use Rattle.value.proofs.ElementSteps.{elements_disorder, elements_again, elements_done, elements_start, listed-low}
use Rattle.value.proofs.TagSteps.{own_usable}
use borrow.Author.Rules.{rules}
use Rattle.value.proofs.check_alike.Goals as goal

pub own_first-tag-requires : goal.own_first-tag-requires
own_first-tag-requires c = record { worded = search rules; here = search element-here; typed = search element-typed }

pub loop-i-init : goal.loop-i-init
loop-i-init c = search elements_start

pub check_leaf-requires : goal.check_leaf-requires
check_leaf-requires c = record { worded = search rules; here = search element-here; kinded = search element_kind; basic = search element_basic; inside = search rules; usable = search own_usable }

pub returns-in_err-next : goal.returns-in_err-next
returns-in_err-next c = c.from_residual.ensures ∙ search (elements_bad, c.in_err-next.was)

pub in_order-requires : goal.in_order-requires
in_order-requires c = record { low = search listed-low; high = search (element-after, c.in_ok-next.was); inside = search (element-ends, c.in_ok-next.was) }

pub returns-then-not-in_order : goal.returns-then-not-in_order
returns-then-not-in_order c = search (elements_disorder, c.in_ok-next.was)

pub loop-i-smaller : goal.loop-i-smaller
loop-i-smaller c = search (element-less, c.in_ok-next.was)

pub loop-i-preserved : goal.loop-i-preserved
loop-i-preserved c = search (elements_again, c.in_ok-next.was)

pub returns : goal.returns
returns c = search elements_done
