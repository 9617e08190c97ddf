use Rattle.value.proofs.LeafSteps.{first-start, first_found, first_again, first_done, starts-here}
use Rattle.value.proofs.MemberSteps.{row_fits_lem, alternative-here, alternative-member, member-fits, count-le}
use Rattle.value.proofs.NestedSteps.{choose_none, choose_this}
use borrow.Author.Rules.{rules}
use Rattle.value.proofs.choose.Goals as goal

pub loop-j-init : goal.loop-j-init
loop-j-init c = first-start _ _

pub overflow_add-member : goal.overflow_add-member
overflow_add-member c = record { fits = search row_fits_lem }

pub overflow_add-member-in-loop-j : goal.overflow_add-member-in-loop-j
overflow_add-member-in-loop-j c = record { fits = search member-fits }

pub member_starts-requires : goal.member_starts-requires
member_starts-requires c = record { worded = search rules; here = search (alternative-here, count-le); member = search (alternative-member, count-le); inside = search rules }

pub returns-then-member_starts : goal.returns-then-member_starts
returns-then-member_starts c = search (choose_this, first_found, starts-here)

pub loop-j-preserved : goal.loop-j-preserved
loop-j-preserved c = search (first_again, starts-here)

pub returns : goal.returns
returns c = search (choose_none, first_done)
