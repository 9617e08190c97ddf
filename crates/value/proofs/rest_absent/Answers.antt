use Rattle.value.proofs.MemberSteps.{row_fits_lem, alternative-here, alternative-member, member-fits, count-le, rest_mandatory, rest_again, rest_beyond, rest_ends}
use borrow.Author.Rules.{rules}
use Rattle.value.proofs.rest_absent.Goals as goal

pub loop-j-init : goal.loop-j-init
loop-j-init c = search rules

pub overflow_add-row : goal.overflow_add-row
overflow_add-row c = record { fits = search row_fits_lem }

pub overflow_add-row-in-loop-j : goal.overflow_add-row-in-loop-j
overflow_add-row-in-loop-j c = record { fits = search member-fits }

pub presence-requires : goal.presence-requires
presence-requires c = record { worded = search rules; here = search (alternative-here, count-le); member = search (alternative-member, count-le) }

pub returns-then-presence-eq0 : goal.returns-then-presence-eq0
returns-then-presence-eq0 c = search rest_mandatory

pub loop-j-preserved : goal.loop-j-preserved
loop-j-preserved c = search rest_again

pub returns-then-i-stop : goal.returns-then-i-stop
returns-then-i-stop c = search rest_beyond

pub returns : goal.returns
returns c = search rest_ends
