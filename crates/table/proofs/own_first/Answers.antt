use Rattle.table.proofs.Reading.{row_small, read-own}
use Rattle.table.proofs.own_first.Goals as goal

pub first_word-requires : goal.first_word-requires
first_word-requires c = search row_small

pub returns : goal.returns
returns c = search read-own
