use Rattle.table.proofs.Reading.{row_small, read-how}
use Rattle.table.proofs.tagged.Goals as goal

pub first_word-requires : goal.first_word-requires
first_word-requires c = search row_small

pub returns : goal.returns
returns c = search read-how
