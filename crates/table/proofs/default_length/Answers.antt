use Rattle.table.proofs.Reading.{row_small, read_length}
use Rattle.table.proofs.default_length.Goals as goal

pub first_word-requires : goal.first_word-requires
first_word-requires c = search row_small

pub returns : goal.returns
returns c = search read_length
