use Rattle.walk.proofs.WalkSteps.{steps_low, steps_within, end_in, end_moves}
use Rattle.walk.proofs.to_last.Goals as goal

pub opened-o-requires : goal.opened-o-requires
opened-o-requires c = search steps_within

pub first_at-requires : goal.first_at-requires
first_at-requires c = search steps_low

pub nth_last-requires : goal.nth_last-requires
nth_last-requires c = search end_in

pub returns : goal.returns
returns c = search end_moves
