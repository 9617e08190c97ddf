use Rattle.namematch.proofs.NameSteps.{reach-start, reach-none, reach-misfit, reach-more, reach-fewer, reach-last}
use Rattle.der.proofs.NameLaws.{rdn_usable}
use Rattle.der.proofs.NameSteps.{contents-fit}
use borrow.Author.Rules.{rules}
use Rattle.namematch.proofs.same_last.Goals as goal

pub loop-init : goal.loop-init
loop-init c = search reach-start

pub returns-then-reached-eq0 : goal.returns-then-reached-eq0
returns-then-reached-eq0 c = search reach-none

pub open_within-requires : goal.open_within-requires
open_within-requires c = record { within = search rules; usable = search rdn_usable }

pub returns-in_default : goal.returns-in_default
returns-in_default c = search reach-misfit

pub overflow_add-place : goal.overflow_add-place
overflow_add-place c = record { fits = search contents-fit }

pub loop-preserved : goal.loop-preserved
loop-preserved c = search reach-more

pub returns-then-reached-eq0-2 : goal.returns-then-reached-eq0-2
returns-then-reached-eq0-2 c = search reach-none

pub open_within-requires-2 : goal.open_within-requires-2
open_within-requires-2 c = record { within = search rules; usable = search rdn_usable }

pub returns-in_default-open_within : goal.returns-in_default-open_within
returns-in_default-open_within c = search reach-misfit

pub returns-then-rdn_start-ne0 : goal.returns-then-rdn_start-ne0
returns-then-rdn_start-ne0 c = search reach-fewer

pub returns : goal.returns
returns c = search reach-last
