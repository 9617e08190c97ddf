use Rattle.rows.proofs.FollowerSteps.{follower_cut, follower-named, follower-begun, follower_unbegun, follower-long}
use Rattle.rows.proofs.Steps.{size_found}
use borrow.Author.Rules.{rules}
use Rattle.rows.proofs.follower_size.Goals as goal
use Rattle.rows.proofs.follower_size.Goals.{in-16, in-18, in_default}

pub returns-then-t-p-lt-BIT_BYTES : goal.returns-then-t-p-lt-BIT_BYTES
returns-then-t-p-lt-BIT_BYTES c = search follower_cut

pub name_begun-requires : goal.name_begun-requires
name_begun-requires c = search follower-named

pub returns-then-not-name_begun : goal.returns-then-not-name_begun
returns-then-not-name_begun c = search follower_unbegun

pub member_size-size-requires : goal.member_size-size-requires
member_size-size-requires c = record { member = search rules; named = search follower-named; begun = search follower-begun }

pub bit_size-size-requires : goal.bit_size-size-requires
bit_size-size-requires c = record { bit = search rules; named = search follower-named; begun = search follower-begun }

pub long_member_size-size-requires : goal.long_member_size-size-requires
long_member_size-size-requires c = record { long = search follower-long; named = search follower-named; begun = search follower-begun }

pub returns : goal.returns
returns c = elim c.match-t-p.branch [ in-16 w ↦ search size_found | in-18 w ↦ search size_found | in_default w ↦ search size_found ]
