use Rattle.table.proofs.Reading.{row_small, read_number}
use Rattle.table.proofs.default_number.Goals as goal

pub second_word-requires : goal.second_word-requires
second_word-requires c = search row_small

pub returns : goal.returns
returns c = search read_number
