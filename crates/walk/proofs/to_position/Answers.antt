use Rattle.walk.proofs.WalkSteps.{steps_low, steps_within, position_in, position_moves}
use Rattle.walk.proofs.to_position.Goals as goal

pub opened-o-requires : goal.opened-o-requires
opened-o-requires c = search steps_within

pub first_at-requires : goal.first_at-requires
first_at-requires c = search steps_low

pub nth-requires : goal.nth-requires
nth-requires c = search position_in

pub returns : goal.returns
returns c = search position_moves
