use Rattle.evaluation.proofs.ItemSteps.{row-led, suits_row_told, suits_count_told, suits_nothing_told}
use borrow.Author.Rules.{rules}
use Rattle.evaluation.proofs.suits_target.Goals as goal

pub suits-requires : goal.suits-requires
suits-requires c = record { worded = search rules; here = search row-led }

pub returns-in-Row : goal.returns-in-Row
returns-in-Row c = search suits_row_told

pub returns-in-Count : goal.returns-in-Count
returns-in-Count c = search suits_count_told

pub returns-in_default : goal.returns-in_default
returns-in_default c = search suits_nothing_told
