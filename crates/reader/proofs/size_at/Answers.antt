use Rattle.reader.proofs.Steps.{size_none, sum_fits, long, size_is}
use Rattle.reader.proofs.size_at.Goals as goal

pub returns-in_default : goal.returns-in_default
returns-in_default c = search size_none

pub overflow_add-result : goal.overflow_add-result
overflow_add-result c = record { fits = search sum_fits }

pub overflow_sub-result : goal.overflow_sub-result
overflow_sub-result c = search long

pub returns : goal.returns
returns c = search size_is
