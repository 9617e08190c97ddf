use Rattle.table.proofs.Reading.{row_small}
use Rattle.value.proofs.TagSteps.{begins_as}
use Rattle.value.proofs.begins_with.Goals as goal

pub second_word-requires : goal.second_word-requires
second_word-requires c = search row_small

pub returns : goal.returns
returns c = search begins_as
