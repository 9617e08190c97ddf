use Rattle.namematch.proofs.NameSteps.{before-start, before-none, before-misfit, before-other, before_more, before-done}
use Rattle.der.proofs.NameLaws.{rdn_usable}
use Rattle.der.proofs.NameSteps.{contents-fit}
use borrow.Author.Rules.{rules}
use Rattle.namematch.proofs.same_before.Goals as goal

pub loop-init : goal.loop-init
loop-init c = search before-start

pub returns-then-end-eq0 : goal.returns-then-end-eq0
returns-then-end-eq0 c = search before-none

pub open_within-requires : goal.open_within-requires
open_within-requires c = record { within = search rules; usable = search rdn_usable }

pub returns-in_default : goal.returns-in_default
returns-in_default c = search before-misfit

pub returns-then-not-same_rdn_back : goal.returns-then-not-same_rdn_back
returns-then-not-same_rdn_back c = search before-other

pub overflow_add-at : goal.overflow_add-at
overflow_add-at c = record { fits = search contents-fit }

pub loop-preserved : goal.loop-preserved
loop-preserved c = search before_more

pub returns : goal.returns
returns c = search before-done
