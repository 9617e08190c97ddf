use Rattle.rows.proofs.Steps.{follower-low, follower_group, follower_bit, follower-none}
use Rattle.rows.proofs.follower_kind.Goals as goal

pub returns-then-kind-lt-SEQUENCE : goal.returns-then-kind-lt-SEQUENCE
returns-then-kind-lt-SEQUENCE c = search follower-low

pub returns-then-is_group : goal.returns-then-is_group
returns-then-is_group c = search follower_group

pub returns-then-kind-eq-NAMED_BIT_STRING : goal.returns-then-kind-eq-NAMED_BIT_STRING
returns-then-kind-eq-NAMED_BIT_STRING c = search follower_bit

pub returns : goal.returns
returns c = search follower-none
