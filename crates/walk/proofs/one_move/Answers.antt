use Rattle.walk.proofs.WalkSteps.{steps_low, move_last}
use borrow.Author.Rules.{rules}
use Rattle.walk.proofs.one_move.Goals as goal

pub sort_at-sort-requires : goal.sort_at-sort-requires
sort_at-sort-requires c = search steps_low

pub to_last-requires : goal.to_last-requires
to_last-requires c = record { steps = search rules; sort = search move_last }
