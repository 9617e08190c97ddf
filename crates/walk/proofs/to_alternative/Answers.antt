use Rattle.walk.proofs.WalkSteps.{steps_low, steps_within, alternative-here, alternative-kind, alternative-fits, alternative-row_fits, alternative_moves}
use borrow.Author.Rules.{rules}
use Rattle.walk.proofs.to_alternative.Goals as goal

pub first_at-row-requires : goal.first_at-row-requires
first_at-row-requires c = search steps_low

pub second_at-j-requires : goal.second_at-j-requires
second_at-j-requires c = search steps_low

pub overflow_add-row : goal.overflow_add-row
overflow_add-row c = record { fits = search alternative-row_fits }

pub overflow_add-row-2 : goal.overflow_add-row-2
overflow_add-row-2 c = record { fits = search alternative-fits }

pub find_alternative-requires : goal.find_alternative-requires
find_alternative-requires c = record { worded = search rules; here = search alternative-here; member = search alternative-kind; value = search steps_within }

pub returns : goal.returns
returns c = search alternative_moves
