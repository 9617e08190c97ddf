use Rattle.quote.proofs.Steps.{room-first, room_next, quotes_start, quotes_double, quotes_on, quotes_end}
use Rattle.quote.proofs.write.Goals as goal
use Rattle.quote.proofs.write.Goals.{then-octet-eq34, else-octet-eq34}

pub bounds-room-0 : goal.bounds-room-0
bounds-room-0 c = search room-first

pub loop-octet-init : goal.loop-octet-init
loop-octet-init c = search quotes_start

pub bounds-room-n-then-octet-eq34 : goal.bounds-room-n-then-octet-eq34
bounds-room-n-then-octet-eq34 c = search room_next

pub loop-octet-preserved : goal.loop-octet-preserved
loop-octet-preserved c = elim c.if-octet-eq34.branch [ then-octet-eq34 w ↦ search quotes_double | else-octet-eq34 w ↦ search quotes_on ]

pub returns : goal.returns
returns c = search quotes_end
