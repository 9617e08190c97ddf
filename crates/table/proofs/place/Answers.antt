use Rattle.table.proofs.Reading.{row_small, read-place}
use Rattle.table.proofs.place.Goals as goal

pub first_word-requires : goal.first_word-requires
first_word-requires c = search row_small

pub returns : goal.returns
returns c = search read-place
