use Rattle.walk.proofs.VisitSteps.{list_over, room_2, room_3, list_written}
use Rattle.walk.proofs.list_one.Goals as goal

pub returns-then-out-n : goal.returns-then-out-n
returns-then-out-n c = search list_over

pub bounds-out-n-2 : goal.bounds-out-n-2
bounds-out-n-2 c = search room_2

pub bounds-out-n-3 : goal.bounds-out-n-3
bounds-out-n-3 c = search room_3

pub returns : goal.returns
returns c = search list_written
