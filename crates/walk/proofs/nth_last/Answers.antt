use Rattle.walk.proofs.Leaves.{last_none, last_fits, last_nth}
use Rattle.walk.proofs.nth_last.Goals as goal

pub returns-then-size-n : goal.returns-then-size-n
returns-then-size-n c = search last_none

pub overflow_add-size : goal.overflow_add-size
overflow_add-size c = record { fits = search last_fits }

pub returns : goal.returns
returns c = search last_nth
