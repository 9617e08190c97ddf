use Rattle.der.proofs.SubSteps.{sub_80, sub_cut, sub-end, sub_more, sub-over, sub-start, sub-value}
use borrow.Author.Rules.{rules}
use Rattle.der.proofs.read_sub.Goals as goal

pub returns-then-c-at : goal.returns-then-c-at
returns-then-c-at c = record { told = search sub-end; forward = tt }

pub returns-then-c-at-2 : goal.returns-then-c-at-2
returns-then-c-at-2 c = record { told = search sub_80; forward = tt }

pub loop-i-init : goal.loop-i-init
loop-i-init c = (search rules, search sub-start)

pub returns-then-v-gt33554431 : goal.returns-then-v-gt33554431
returns-then-v-gt33554431 c = record { told = search sub-over; forward = tt }

pub returns-then-o-lt128 : goal.returns-then-o-lt128
returns-then-o-lt128 c = record { told = search sub-value; forward = (search rules, search rules) }

pub loop-i-preserved : goal.loop-i-preserved
loop-i-preserved c = (search rules, search sub_more)

pub returns : goal.returns
returns c = record { told = search sub_cut; forward = tt }
