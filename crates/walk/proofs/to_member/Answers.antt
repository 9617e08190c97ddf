use Rattle.walk.proofs.WalkSteps.{steps_low, steps_within, to_member_here, to_member_one, to_member_in, to_member_moves}
use borrow.Author.Rules.{rules}
use Rattle.walk.proofs.to_member.Goals as goal

pub first_at-row-requires : goal.first_at-row-requires
first_at-row-requires c = search steps_low

pub second_at-j-requires : goal.second_at-j-requires
second_at-j-requires c = search steps_low

pub opened-o-requires : goal.opened-o-requires
opened-o-requires c = search steps_within

pub find_member-requires : goal.find_member-requires
find_member-requires c = record { worded = search rules; here = search to_member_here; one = search to_member_one; members = search to_member_in }

pub returns : goal.returns
returns c = search to_member_moves
