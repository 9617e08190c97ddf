use Rattle.table.proofs.PassSteps.{next_whole, member_unnamed, member_unallowed, member-number, member-target, member-size, member-presence, next_place_lem, member-made}
use Rattle.table.proofs.member_row.Goals as goal

pub member_type_row-j-requires : goal.member_type_row-j-requires
member_type_row-j-requires c = search next_whole

pub returns-then-not-later_type : goal.returns-then-not-later_type
returns-then-not-later_type c = search member_unnamed

pub member_allowed-requires : goal.member_allowed-requires
member_allowed-requires c = search next_whole

pub returns-then-not-member_allowed : goal.returns-then-not-member_allowed
returns-then-not-member_allowed c = search member_unallowed

pub member_word-requires : goal.member_word-requires
member_word-requires c = record { whole = search next_whole; number = search member-number; target = search member-target; size = search member-size; presence = search member-presence; place = search next_place_lem }

pub member_second-requires : goal.member_second-requires
member_second-requires c = record { whole = search next_whole; size = search member-size }

pub returns : goal.returns
returns c = search member-made
